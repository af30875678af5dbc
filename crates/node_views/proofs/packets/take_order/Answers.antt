-- In mode fixed nothing is done, else the views take it.
use Rattle.std.proofs.lemmas.Result.{on_ok_weaker}
use Rattle.entry_delivery.proofs.DoingLaws.{receive_nothing}
use Rattle.node_views.proofs.WorkLaws.{no_order_does, order_does}
use Rattle.node_views.proofs.packets.take_order.Goals as goal

pub returns-then-is_fixed-clause-does : goal.returns-then-is_fixed-clause-does
returns-then-is_fixed-clause-does g c = no_order_does _ _ (receive_nothing _ _) c.args.core.now c.args.mask c.is_fixed.result c.is_fixed.ensures c.if-is_fixed.true

pub returns-clause-does : goal.returns-clause-does
returns-clause-does g c = on_ok_weaker c.take_view.result (order_does _ _ c.args.core.now c.take_view.new.core c.args.mask c.is_fixed.result c.is_fixed.ensures c.if-is_fixed.false) c.take_view.ensures.does
