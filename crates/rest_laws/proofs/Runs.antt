-- At each moment of a run its nodes are those of a scene that events lead to.
use Rattle.std.proofs.Common.{◌∙◌, subst}
use Rattle.world_safety.proofs.Runs.{every_run_is_reached}
use Rattle.world_safety.proofs.Moments.{may_front}
use Rattle.rest_laws.specs.Leaders.{LeadsAtRest}
use Rattle.rest_laws.specs.Runs.{EveryLeaderIsAtRest}
use Rattle.rest_laws.proofs.Law.{leaders_of_scenes_are_at_rest}

pub every_leader_is_at_rest : EveryLeaderIsAtRest
every_leader_is_at_rest c es may front rest e n s up =
    let run = every_run_is_reached c front (may_front c es may front rest e) in
    subst (LeadsAtRest s) run.5 (leaders_of_scenes_are_at_rest c run.0 run.1 n s (run.4.cores n ∙ up))
