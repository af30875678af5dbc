-- A heartbeat has a spelling.
use Rattle.std.proofs.Common.{◌≡◌, refl, arith}
use Rattle.std.specs.Prelude.{length}
use Rattle.rsct_packet.specs.declared.ids.RingId.{RingId}
use Rattle.rsct_packet.specs.Fields.{ring_text, u32_text}
use Rattle.rsct_packet.specs.Packet.{is_head}
use Rattle.adapter_ring.specs.declared.packet.RingPacket.TheVariants as ring
use Rattle.node_state.specs.declared.packet.Body.TheVariants as body
use Rattle.node_state.specs.declared.packet.Packet.{Packet}
use Rattle.node_state.specs.Bodies.{body_text}
use Rattle.packet_codec.specs.Spelled.{IsSpelled}

abbrev pub a_ring : RingId
a_ring = record { leader = 3; inc = 1; number = 3 }

abbrev pub a_heartbeat : Packet
a_heartbeat = record { network = 1; from = 2; to = 1; inc = 1; level = 1; domain = 0; body = body.Ring (ring.Heartbeat a_ring) }

nine : length (body_text (body.Ring (ring.Heartbeat a_ring))) ≡ 9
unfolding body_text ring_text u32_text
nine = refl

pub heartbeat_is_spelled : IsSpelled a_heartbeat
unfolding is_head
heartbeat_is_spelled = record {
  writable = record {
    head = refl;
    level = refl;
    inc = omega arith;
    domain = refl;
    body = record { number = omega arith; leader = (omega arith, omega arith); inc = omega arith };
  };
  short = omega (arith, nine);
}
