-- Every run of events that may happen is one of scenes.
use Rattle.std.proofs.Common.{subst}
use Rattle.run_safety.specs.Past.{History}
use Rattle.world_safety.proofs.Runs.{every_run_is_reached}
use Rattle.asking_laws.specs.Requests.{AllFit, RequestsAreSpelled}
use Rattle.node_state.specs.declared.happened.Happened.TheVariants.{Asked}
use Rattle.line_laws.proofs.Parts.{records_are_lines}
use Rattle.asking_laws.specs.Runs.{EveryRequestIsSpelled, EveryRequestIsALine}
use Rattle.asking_laws.proofs.Law.{requests_of_scenes_are_spelled}

pub every_request_is_spelled : EveryRequestIsSpelled
every_request_is_spelled c es may =
    let run = every_run_is_reached c es may in
    subst (λ (h : History). AllFit h → RequestsAreSpelled h) run.5 (λ f. (requests_of_scenes_are_spelled c run.0 run.3 f).0)

pub every_request_is_a_line : EveryRequestIsALine
every_request_is_a_line c es may fits p r g x i =
    let k = every_request_is_spelled c es may fits p r g x i in records_are_lines (Asked p r g x) (k.provider, k.number, k.group)
