-- Announced, ticked and closed.
use Rattle.std.proofs.Common.{subst}
use Rattle.std.proofs.lemmas.Result.{on_ok_weaker}
use Rattle.node_state.specs.Leading.{closes}
use Rattle.entry_delivery.specs.Received.{Receive}
use Rattle.entry_delivery.specs.Doing.{Does}
use Rattle.entry_delivery.proofs.DoingLaws.{receive_then}
use Rattle.group_deciding.proofs.TickLaws.{Scripts, phase_does}
use Rattle.group_deciding.proofs.leader_tick.tick_open.Goals as goal

pub returns-clause-does : goal.returns-clause-does
returns-clause-does g c =
    on_ok_weaker c.close.result
    (λ done. phase_does _ _ _ _ (receive_then _ _ _ _) c.args.core.now c.announce.new.core c.tick_tally.new.core c.close.new.core c.args.group.now _ c.requires.opened c.in_ok-announce.ensures.does c.in_ok-tick_tally.ensures.rule c.in_ok-tick_tally.ensures.keeps
    (subst (λ (scripts : Scripts). Does scripts (Receive g.C.Callbacks.stands_for c.announce.new.clients.items c.close.new.clients.items) c.tick_tally.new.core c.close.new.core (λ f. closes f c.tick_tally.new.core c.args.group.now)) c.in_ok-announce.ensures.scripts done))
    c.close.ensures.does
