-- Packets as bytes.
use Rattle.std.specs.Prelude.{ℕ, Bool, List, ◌++◌, length, Option, Some, None, is_some}
use Rattle.std.specs.Option.{option_map}
use Rattle.rsct_packet.specs.declared.packet.Head.{Head}
use Rattle.rsct_packet.specs.Packet.{PacketView, packet_at, head_text}
use Rattle.node_state.specs.declared.packet.Body.{Body}
use Rattle.node_state.specs.declared.packet.Packet.{Packet}
use Rattle.node_state.specs.Bodies.{kind_of, body_at, body_text}
use Rattle.node_state.specs.Step.{NodeEvent, Given, Garbage}

-- the packet of a head and a body that is read
abbrev pub with_body : PacketView → Body → Packet
with_body p b =
    record { network = p.head.network; from = p.head.from; to = p.head.to; inc = p.head.inc; level = p.level; domain = p.domain; body = b }

abbrev pub packet_in : Option PacketView → Option Packet
packet_in None = None
packet_in (Some p) = option_map (with_body p) (body_at p.head.kind p.body)

-- the packet that bytes spell: a head, and a body of its kind's grammar
unfoldable pub packet_of : List ℕ → Option Packet
packet_of bytes = packet_in (packet_at bytes)

unfoldable pub is_packet : List ℕ → Bool
is_packet bytes = is_some (packet_of bytes)

abbrev pub head_of : Packet → Head
head_of p = record { kind = kind_of p.body; network = p.network; from = p.from; to = p.to; inc = p.inc }

-- the spelling of a packet
unfoldable pub bytes_of : Packet → List ℕ
bytes_of p = let text : List ℕ = body_text p.body in head_text (head_of p) p.level p.domain (length text) ++ text

unfoldable pub packet_len : Packet → ℕ
packet_len p = length (bytes_of p)

abbrev pub event_in : Option Packet → NodeEvent
event_in None = Garbage
event_in (Some p) = Given p

-- what a datagram is to a node: a packet, or bytes that are dropped
unfoldable pub event_of : List ℕ → NodeEvent
event_of bytes = event_in (packet_of bytes)

-- opens each word of this file, for a computation
unfoldable pub bytes_opens : Unit {0}
unfolding packet_of is_packet bytes_of packet_len event_of
bytes_opens = tt
