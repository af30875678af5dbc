-- A packet for another node is dropped, one for this node is taken.
use Rattle.std.proofs.lemmas.Result.{on_ok_weaker}
use Rattle.entry_delivery.proofs.DoingLaws.{receive_nothing}
use Rattle.packet_codec.specs.InPlace.{packet_in}
use Rattle.node_core.proofs.StepLaws.{away_does, here_does}
use Rattle.node_core.proofs.packets.take_packet.Goals as goal

pub returns-then-packet-core-clause-does : goal.returns-then-packet-core-clause-does
returns-then-packet-core-clause-does g c = away_does _ _ (receive_nothing _ _) c.args.core.now (packet_in c.args.packet.now) c.if-packet-core.true

pub returns-clause-does : goal.returns-clause-does
returns-clause-does g c = on_ok_weaker c.take_body.result (here_does _ _ c.args.core.now c.take_body.new.core (packet_in c.args.packet.now) c.if-packet-core.false) c.take_body.ensures.does
