-- What clients ask for in every run.
use Rattle.std.specs.Prelude.{List}
use Rattle.node_state.specs.declared.config.Config.{Config}
use Rattle.world_laws.specs.world_answers.Answers.{Answered, events_in}
use Rattle.world_safety.specs.Events.{AllMayHappen}
use Rattle.world_safety.specs.Scripts.{history_in}
use Rattle.asking_laws.specs.Requests.{AllFit, RequestsAreSpelled, RequestsAreLines}

-- whatever the clients answer
abbrev pub EveryRequestIsSpelled : Type 0
EveryRequestIsSpelled = (c : Config) (es : List Answered) → AllMayHappen c (events_in es) → AllFit (history_in c es) → RequestsAreSpelled (history_in c es)

abbrev pub EveryRequestIsALine : Type 0
EveryRequestIsALine = (c : Config) (es : List Answered) → AllMayHappen c (events_in es) → AllFit (history_in c es) → RequestsAreLines (history_in c es)
