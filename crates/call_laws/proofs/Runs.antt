-- Every run of events that may happen is one of scenes.
use Rattle.std.proofs.Common.{subst}
use Rattle.world_safety.proofs.Runs.{every_run_is_reached}
use Rattle.call_laws.specs.Calls.{EachCallIsSaid}
use Rattle.call_laws.specs.Runs.{EveryCallIsSaid}
use Rattle.call_laws.proofs.Law.{calls_of_scenes_are_said}

pub every_call_is_said : EveryCallIsSaid
every_call_is_said c es may =
    let run = every_run_is_reached c es may in subst EachCallIsSaid run.5 (calls_of_scenes_are_said c run.0 run.3)
