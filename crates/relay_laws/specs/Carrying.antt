-- What the datagrams of a world with relays carry, and what each delivery is in the direct world.
use Rattle.std.specs.Prelude.{ℕ, ◌≡◌, ◌≢◌, true, List, Some, None}
use Rattle.rsct_packet.specs.Search.{Has}
use Rattle.node_state.specs.declared.packet.Packet.{Packet}
use Rattle.node_state.specs.HandOn.{Answering}
use Rattle.node_state.specs.Step.{Given}
use Rattle.route_state.specs.declared.front.Front.{Front}
use Rattle.route_state.specs.Relaying.{may_relay, on_one}
use Rattle.world_model.specs.declared.event.Event.{Event}
use Rattle.world_model.specs.declared.event.Event.TheVariants as event
use Rattle.world_model.specs.World.{Node, World, node_at}
use Rattle.world_laws.specs.world_answers.Answers.{step_by}
use Rattle.relay_model.specs.Leaving.{Parcel, Bare, Wrapped}
use Rattle.relay_model.specs.Relays.{Pair, Relayed, datagram_between, relays_by}

-- ---- what datagrams carry

-- the packet of an envelope is one that its origin's steps sent to its target
pub record Handed (w : World) (f : Front) (p : Packet) : Type 0 where
  pub packet : Packet
  pub sent : Has packet w.sent
  pub from : packet.from ≡ f.origin
  pub to : packet.to ≡ f.target
  pub relays : may_relay packet.body ≡ true
  pub is : p ≡ on_one packet

-- of a datagram from one node to another
abbrev pub CarriedBy : World → ℕ → ℕ → Parcel → Type 0
CarriedBy w a b (Bare p) = Has p w.sent × (p.from ≡ a) × (p.to ≡ b)
CarriedBy w a b (Wrapped f p) = Handed w f p

-- of all datagrams
abbrev pub EachDatagram : (ℕ → ℕ → Parcel → Type 0) → List Pair → Type 0
EachDatagram P pairs = (x : Pair) → Has x pairs → (d : Parcel) → Has d x.parcels → P x.from x.to d

abbrev pub Carries : Relayed → Type 0
Carries r = EachDatagram (CarriedBy r.world) r.pairs

-- Whatever happens: a packet that goes by itself is one that its sender's steps sent to who it goes to, and one in an envelope is
-- one that the origin's steps sent to the target.
abbrev pub EventsCarry : Type 0
EventsCarry = (f : Answering) (r : Relayed) (e : Event) → Carries r → Carries (relays_by f r e)

-- ---- what a delivery is

-- the packet that a datagram from one node to another brings to this one
abbrev pub Brings : World → ℕ → ℕ → Parcel → Packet → Type 0
Brings w a b (Bare p) q = Has p w.sent × (p.from ≡ a) × (p.to ≡ b) × (p ≡ q)
Brings w a b (Wrapped f p) q = (f.target ≡ b) × (h : Handed w f p) × (h.packet ≡ q)

-- nothing is given: the node is down, no such datagram was sent, or it is an envelope for another node
pub data IsNotGiven (r : Relayed) (a b k : ℕ) : Type 0 where
  Down : node_at r.world b ≡ None → IsNotGiven r a b k
  Unsent : datagram_between r a b k ≡ None → IsNotGiven r a b k
  Elsewhere : (f : Front) (p : Packet) → datagram_between r a b k ≡ Some (Wrapped f p) → f.target ≢ b → IsNotGiven r a b k

-- a delivery leaves the direct world as it is, or it is the step of the node with the packet that the datagram brings
pub data IsDirect (f : Answering) (r : Relayed) (a b k : ℕ) (v : World) : Type 0 where
  Nothing : IsNotGiven r a b k → v ≡ r.world → IsDirect f r a b k v
  Gives : (x : Node) (d : Parcel) (q : Packet) → node_at r.world b ≡ Some x → datagram_between r a b k ≡ Some d → Brings r.world a b d q → v ≡ step_by f r.world (Given q) x → IsDirect f r a b k v

abbrev pub DeliveriesAreDirect : Type 0
DeliveriesAreDirect = (f : Answering) (r : Relayed) (a b k : ℕ) → Carries r → IsDirect f r a b k (relays_by f r (event.Deliver a b k)).world
