-- The views take the tick, and then the reminder.
use Rattle.std.proofs.lemmas.Result.{on_ok_weaker}
use Rattle.entry_delivery.proofs.DoingLaws.{receive_then}
use Rattle.node_views.proofs.WorkLaws.{ticked_does}
use Rattle.node_views.proofs.packets.tick_views.Goals as goal

pub returns-clause-does : goal.returns-clause-does
returns-clause-does g c =
    on_ok_weaker c.take_view-2.result (λ next. ticked_does _ _ _ _ (receive_then _ _ _ _) c.args.core.now c.take_view.new.core c.take_view-2.new.core c.ring_ask-ring_ask.result c.ring_ask-ring_ask.ensures c.in_ok-take_view.ensures.does next)
    (rw c.in_ok-take_view.ensures.scripts at c.take_view-2.ensures.does)
