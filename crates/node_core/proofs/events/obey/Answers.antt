-- An order, and the end of the step.
use Rattle.std.proofs.lemmas.Result.{on_ok_weaker}
use Rattle.entry_delivery.proofs.DoingLaws.{receive_then}
use Rattle.node_core.proofs.StepLaws.{does_by, order_does}
use Rattle.node_core.proofs.events.obey.Goals as goal

pub returns-clause-does : goal.returns-clause-does
returns-clause-does g c =
    on_ok_weaker c.end_step.result
    (λ ends. order_does _ _ _ _ (receive_then _ _ _ _) c.args.core.now c.take_order.new.core c.end_step.new.core c.args.mask c.in_ok-take_order.ensures.does (does_by _ _ _ _ _ _ c.in_ok-take_order.ensures.scripts ends))
    c.end_step.ensures.does
