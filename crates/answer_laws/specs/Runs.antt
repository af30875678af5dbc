-- What providers are told of their requests in every run.
use Rattle.std.specs.Prelude.{List}
use Rattle.node_state.specs.declared.config.Config.{Config}
use Rattle.world_laws.specs.world_answers.Answers.{Answered, events_in}
use Rattle.world_safety.specs.Events.{AllMayHappen}
use Rattle.world_safety.specs.Scripts.{history_in}
use Rattle.answer_laws.specs.Answers.{EachAnswerIsDue, AnswersInOrder}

-- whatever the clients answer
abbrev pub EveryAnswerIsDue : Type 0
EveryAnswerIsDue = (c : Config) (es : List Answered) → AllMayHappen c (events_in es) → EachAnswerIsDue (history_in c es)

abbrev pub EveryAnswerInOrder : Type 0
EveryAnswerInOrder = (c : Config) (es : List Answered) → AllMayHappen c (events_in es) → AnswersInOrder (history_in c es)
