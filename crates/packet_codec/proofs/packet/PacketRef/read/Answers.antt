use Rattle.rsct_packet.specs.Packet.{packet_view}
use Rattle.packet_codec.proofs.BodyFormats.{has_kind}
use Rattle.packet_codec.proofs.packet.PacketRef.read.Goals as goal

pub read_body-requires-clause-low : goal.read_body-requires-clause-low
read_body-requires-clause-low c = (has_kind (packet_view c.in_ok-packet.packet) c.in_ok-packet.ensures.found.0).0

pub read_body-requires-clause-high : goal.read_body-requires-clause-high
read_body-requires-clause-high c = (has_kind (packet_view c.in_ok-packet.packet) c.in_ok-packet.ensures.found.0).1
