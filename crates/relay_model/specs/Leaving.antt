-- What leaves a node: packets, and packets in envelopes.
use Rattle.std.specs.Prelude.{ℕ, ◌==◌, Bool, true, false, Option, Some, None}
use Rattle.node_reach.specs.Hops.{next_hop}
use Rattle.node_state.specs.declared.packet.Packet.{Packet}
use Rattle.node_state.specs.declared.state.Core.{Core}
use Rattle.node_state.specs.Sending.{network_to}
use Rattle.route_state.specs.declared.front.Front.{Front}
use Rattle.route_state.specs.Envelope.{max_hops}
use Rattle.route_state.specs.Relaying.{may_relay, on_one}

-- what a datagram has: a packet by itself, or one in an envelope with this front
pub data Parcel : Type 0 where
  Bare : (packet : Packet) → Parcel
  Wrapped : (front : Front) (packet : Packet) → Parcel

-- a datagram as it leaves a node: from whom to whom, and on which network
pub record Leaving : Type 0 where
  pub from : ℕ
  pub to : ℕ
  pub network : ℕ
  pub parcel : Parcel

-- a packet by itself
abbrev pub alone : Packet → Leaving
alone p = record { from = p.from; to = p.to; network = p.network; parcel = Bare p }

-- the front of an envelope as it leaves its origin
abbrev pub first_front : Packet → Front
first_front p = record { hops = max_hops; origin = p.from; target = p.to }

-- a packet in an envelope, to the next hop, on the network of a packet to that node
abbrev pub wrapped : Core → Packet → ℕ → Leaving
wrapped s p hop = record { from = p.from; to = hop; network = network_to s hop; parcel = Wrapped (first_front p) (on_one p) }

abbrev pub wrapped_if : Core → Packet → Option ℕ → Option Leaving
wrapped_if s p None = None
wrapped_if s p (Some hop) = Some (wrapped s p hop)

abbrev pub around : Option Core → Packet → Option Leaving
around None p = None
around (Some s) p = wrapped_if s p (next_hop s.reach p.to)

abbrev pub around_if : Bool → Option Core → Packet → Option Leaving
around_if true o p = around o p
around_if false o p = None

-- What becomes of a packet that a step sent, where this is its sender after the step: it leaves by itself on its network; or, where
-- the two nodes share none, in an envelope by the next hop; or, without one, it is lost.
unfoldable pub leaves_as : Option Core → Packet → Option Leaving
leaves_as o p = elim (p.network == 0) [ true ↦ around_if (may_relay p.body) o p | false ↦ Some (alone p) ]

-- opens each word of this file, for a computation
unfoldable pub leaving_opens : Unit {0}
unfolding leaves_as
leaving_opens = tt
