-- What calls of clients leave in the records of every run.
use Rattle.std.specs.Prelude.{List}
use Rattle.node_state.specs.declared.config.Config.{Config}
use Rattle.world_laws.specs.world_answers.Answers.{Answered, events_in}
use Rattle.world_safety.specs.Events.{AllMayHappen}
use Rattle.world_safety.specs.Scripts.{history_in}
use Rattle.call_laws.specs.Calls.{EachCallIsSaid}

-- whatever the clients answer
abbrev pub EveryCallIsSaid : Type 0
EveryCallIsSaid = (c : Config) (es : List Answered) → AllMayHappen c (events_in es) → EachCallIsSaid (history_in c es)
