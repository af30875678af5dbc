-- A call, and the end of the step.
use Rattle.std.proofs.lemmas.Result.{on_ok_weaker}
use Rattle.node_core.proofs.StepLaws.{call_does}
use Rattle.node_core.proofs.events.answer.Goals as goal

pub returns-clause-does : goal.returns-clause-does
returns-clause-does g c =
    on_ok_weaker c.end_step.result
    (λ ends. call_does _ _ c.args.core.now c.take_call.new.core c.end_step.new.core c.args.call.now c.in_ok-take_call.ensures.rule ends)
    c.end_step.ensures.does
