-- The question went out, and what came of it.
use Rattle.std.proofs.Common.{refl}
use Rattle.std.proofs.lemmas.Result.{IfOk-weaker}
use Rattle.status_client.proofs.AskLaws.{asked_answered, asked_unanswered, asked_failing}
use Rattle.status_client.proofs.asking.converse.Goals as goal

pub returns-clause-answered : goal.returns-clause-answered
returns-clause-answered g c =
    IfOk-weaker c.receive.result _ _
    (λ text h. asked_answered c.args.config.now c.args.asking c.now-moment.result _ c.new.result _ _ _ _ c.now-moment.ensures.read refl c.in_ok-send_question.ensures.done c.new.ensures text.items h)
    c.receive.ensures.answered

pub returns-clause-unanswered : goal.returns-clause-unanswered
returns-clause-unanswered g c = λ e.
    asked_unanswered c.args.config.now c.args.asking c.now-moment.result _ c.new.result _ _ _ _ c.now-moment.ensures.read refl c.in_ok-send_question.ensures.done c.new.ensures (c.receive.ensures.unanswered e)

pub returns-clause-failing : goal.returns-clause-failing
returns-clause-failing g c = λ e.
    asked_failing c.args.config.now c.args.asking c.now-moment.result _ c.new.result _ _ _ _ c.now-moment.ensures.read refl c.in_ok-send_question.ensures.done c.new.ensures (c.receive.ensures.failing e)
