-- Bytes that are no packet make nothing, others what the packet makes.
use Rattle.std.proofs.Common.{sym, ap, ◌∙◌}
use Rattle.std.specs.Option.{option_map}
use Rattle.std.proofs.lemmas.Result.{on_ok_weaker}
use Rattle.entry_delivery.proofs.DoingLaws.{receive_nothing}
use Rattle.packet_codec.specs.InPlace.{packet_in}
use Rattle.node_core.proofs.StepLaws.{dropped_does, given_does}
use Rattle.node_core.proofs.packets.take_datagram.Goals as goal

pub returns-in-None-clause-does : goal.returns-in-None-clause-does
returns-in-None-clause-does g c = dropped_does _ _ (receive_nothing _ _) c.args.core.now _ (sym c.packet_read.ensures.value ∙ ap (option_map packet_in) c.in-None.is)

pub returns-in-Some-clause-does : goal.returns-in-Some-clause-does
returns-in-Some-clause-does g c =
    on_ok_weaker c.take_packet.result
    (given_does _ _ c.args.core.now c.take_packet.new.core _ (packet_in c.in-Some.p) (sym c.packet_read.ensures.value ∙ ap (option_map packet_in) c.in-Some.is)) c.take_packet.ensures.does
