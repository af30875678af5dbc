-- Every run of events that may happen is one of scenes.
use Rattle.std.proofs.Common.{subst}
use Rattle.world_safety.proofs.Runs.{every_run_is_reached}
use Rattle.answer_laws.specs.Answers.{EachAnswerIsDue, AnswersInOrder}
use Rattle.answer_laws.specs.Runs.{EveryAnswerIsDue, EveryAnswerInOrder}
use Rattle.answer_laws.proofs.Law.{answers_of_scenes_are_due, answers_of_scenes_in_order}

pub every_answer_is_due : EveryAnswerIsDue
every_answer_is_due c es may =
    let run = every_run_is_reached c es may in subst EachAnswerIsDue run.5 (answers_of_scenes_are_due c run.0 run.1)

pub every_answer_in_order : EveryAnswerInOrder
every_answer_in_order c es may =
    let run = every_run_is_reached c es may in subst AnswersInOrder run.5 (answers_of_scenes_in_order c run.0 run.1)
