-- At each moment of a run its nodes are those of a scene that events lead to.
use Rattle.std.proofs.Common.{◌∙◌, subst}
use Rattle.world_safety.proofs.Runs.{every_run_is_reached}
use Rattle.world_safety.proofs.Moments.{may_front}
use Rattle.request_laws.specs.Requests.{KeepsRequests}
use Rattle.request_laws.specs.Runs.{EveryRequestIsKept}
use Rattle.request_laws.proofs.Law.{requests_of_scenes_are_kept}

pub every_request_is_kept : EveryRequestIsKept
every_request_is_kept c es may front rest e n s up =
    let run = every_run_is_reached c front (may_front c es may front rest e) in
    subst (KeepsRequests n s.sessions) run.5 (requests_of_scenes_are_kept c run.0 run.6 n s (run.4.cores n ∙ up))
