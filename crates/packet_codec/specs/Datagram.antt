-- The packet that bytes are.
use Rattle.std.specs.Prelude.{◌≡◌, ℕ, List, [], Option, Some, None}
use Rattle.node_state.specs.declared.packet.Packet.{Packet}
use Rattle.node_state.specs.declared.packet.Body.TheVariants as body
use Rattle.node_state.specs.Bytes.{packet_of, bytes_of}

-- any packet, in place of none
abbrev pub no_packet : Packet
no_packet = record { network = 0; from = 0; to = 0; inc = 0; level = 1; domain = 0; body = body.Report [] }

abbrev pub packet_in : Option Packet → Packet
packet_in None = no_packet
packet_in (Some p) = p

unfoldable pub packet_as : List ℕ → Packet
packet_as bytes = packet_in (packet_of bytes)

-- they are read as the packet whose one spelling they are
pub record IsDatagram (bytes : List ℕ) : Type 0 where
  pub reads : packet_of bytes ≡ Some (packet_as bytes)
  pub spells : bytes ≡ bytes_of (packet_as bytes)
