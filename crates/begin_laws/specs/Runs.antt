-- What entries begin in every run.
use Rattle.std.specs.Prelude.{List}
use Rattle.node_state.specs.declared.config.Config.{Config}
use Rattle.world_laws.specs.world_answers.Answers.{Answered, events_in}
use Rattle.world_safety.specs.Events.{AllMayHappen}
use Rattle.world_safety.specs.Scripts.{history_in}
use Rattle.begin_laws.specs.Begins.{EntriesBeginAsMeant}

-- whatever the clients answer
abbrev pub EveryEntryBeginsAsMeant : Type 0
EveryEntryBeginsAsMeant = (c : Config) (es : List Answered) → AllMayHappen c (events_in es) → EntriesBeginAsMeant (history_in c es)
