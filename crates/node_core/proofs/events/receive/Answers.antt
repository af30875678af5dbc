-- A datagram, and the end of the step.
use Rattle.std.proofs.lemmas.Result.{on_ok_weaker}
use Rattle.node_state.specs.Bytes.{packet_of, event_of}
use Rattle.entry_delivery.proofs.DoingLaws.{receive_then}
use Rattle.node_core.proofs.StepLaws.{does_by, datagram_does}
use Rattle.node_core.proofs.events.receive.Goals as goal

pub returns-clause-does : goal.returns-clause-does
unfolding event_of
returns-clause-does g c =
    on_ok_weaker c.end_step.result
    (λ ends. datagram_does _ _ _ _ (receive_then _ _ _ _) c.args.core.now c.take_datagram.new.core c.end_step.new.core (packet_of c.args.bytes.now) c.in_ok-take_datagram.ensures.does (does_by _ _ _ _ _ _ c.in_ok-take_datagram.ensures.scripts ends))
    c.end_step.ensures.does
