-- A world of nodes whose packets may go through other nodes. It is a layer over the world in which each packet that was sent may
-- be given, the direct world: an event is at most one step of a node, and that step is one of the direct world.
use Rattle.std.specs.Prelude.{ℕ, Bool, true, false, ◌==◌, ◌&&◌, ◌+◌, ◌-◌, ◌++◌, List, [], ◌∷◌, find, fold, Option, Some, None, nat_lt, nat_le, slice_get}
use Rattle.rsct_packet.specs.Lists.{drop_where, reverse_onto}
use Rattle.node_state.specs.declared.config.Config.{Config}
use Rattle.node_state.specs.declared.happened.Happened.{Happened}
use Rattle.node_state.specs.declared.packet.Packet.{Packet}
use Rattle.node_state.specs.declared.state.Core.{Core}
use Rattle.node_state.specs.Sending.{network_to}
use Rattle.node_state.specs.HandOn.{Answering}
use Rattle.node_state.specs.Step.{Given}
use Rattle.route_state.specs.declared.front.Front.{Front}
use Rattle.route_state.specs.Way.{Course, Arrives, GoesOn, Ends, course}
use Rattle.world_model.specs.declared.event.Event.{Event}
use Rattle.world_model.specs.declared.event.Event.TheVariants as event
use Rattle.world_model.specs.World.{Node, World, node_at, world_new}
use Rattle.world_model.specs.Kept.{sent_since}
use Rattle.world_laws.specs.world_answers.Answers.{Answered, step_by, happens_by}
use Rattle.relay_model.specs.Leaving.{Parcel, Bare, Wrapped, Leaving, leaves_as}

-- all datagrams from one node to another, newest first
pub record Pair : Type 0 where
  pub from : ℕ
  pub to : ℕ
  pub count : ℕ
  pub parcels : List Parcel

-- a datagram that is not handled yet: the one of this number among those of its pair
pub record Sent : Type 0 where
  pub from : ℕ
  pub to : ℕ
  pub number : ℕ
  pub network : ℕ
  pub parcel : Parcel

-- the nodes with all that their steps sent; the datagrams between them; those not handled, in the order of sending; and all
-- that left a node, newest first
pub record Relayed : Type 0 where
  pub world : World
  pub pairs : List Pair
  pub queue : List Sent
  pub left : List Parcel

-- ---- datagrams

unfoldable pub is_pair : ℕ → ℕ → Pair → Bool
is_pair a b x = x.from == a && x.to == b

unfoldable pub pair_with : Parcel → Pair → Pair
pair_with d x = record x { count = x.count + 1; parcels = d ∷ x.parcels }

unfoldable pub pairs_with : ℕ → ℕ → Parcel → List Pair → List Pair
pairs_with a b d [] = record { from = a; to = b; count = 1; parcels = d ∷ [] } ∷ []
pairs_with a b d (x ∷ xs) = elim (is_pair a b x) [ true ↦ pair_with d x ∷ xs | false ↦ x ∷ pairs_with a b d xs ]

abbrev pub count_in : Option Pair → ℕ
count_in None = 0
count_in (Some x) = x.count

-- a datagram leaves a node
unfoldable pub leaves : Relayed → Leaving → Relayed
leaves r d =
    record r {
      pairs = pairs_with d.from d.to d.parcel r.pairs;
      queue = r.queue ++ record { from = d.from; to = d.to; number = count_in (find (is_pair d.from d.to) r.pairs) + 1; network = d.network; parcel = d.parcel } ∷ [];
      left = d.parcel ∷ r.left;
    }

unfoldable pub datagram_in : ℕ → Option Pair → Option Parcel
datagram_in k None = None
datagram_in k (Some x) = elim (nat_lt 0 k && nat_le k x.count) [ true ↦ slice_get x.parcels (x.count - k) | false ↦ None ]

-- the k-th datagram ever sent from one node to another
unfoldable pub datagram_between : Relayed → ℕ → ℕ → ℕ → Option Parcel
datagram_between r a b k = datagram_in k (find (is_pair a b) r.pairs)

unfoldable pub is_sent : ℕ → ℕ → ℕ → Sent → Bool
is_sent a b k x = x.number == k && x.from == a && x.to == b

unfoldable pub handled : Relayed → ℕ → ℕ → ℕ → Relayed
handled r a b k = record r { queue = drop_where (is_sent a b k) r.queue }

-- ---- what an event sends

abbrev pub core_of : Option Node → Option Core
core_of None = None
core_of (Some x) = Some x.core

-- the node of this number, as its last step left it
abbrev pub core_in : World → ℕ → Option Core
core_in w n = core_of (node_at w n)

-- by its sender as it is after the step
abbrev pub leaving_in : World → Packet → Option Leaving
leaving_in w p = leaves_as (core_in w p.from) p

abbrev pub leaves_if : Relayed → Option Leaving → Relayed
leaves_if r None = r
leaves_if r (Some d) = leaves r d

unfoldable pub sends : World → Relayed → Packet → Relayed
sends w r p = leaves_if r (leaving_in w p)

-- the direct world came to this one, and what its step sent goes out
unfoldable pub settled : Relayed → World → Relayed
settled r w = fold (sends w) (record r { world = w }) (sent_since r.world w)

-- ---- deliveries

-- a packet is given to a node that is up
unfoldable pub given_to : Answering → Relayed → Node → Packet → Relayed
given_to f r x p = settled r (step_by f r.world (Given p) x)

-- an envelope as it goes on from a node
abbrev pub passed : Core → ℕ → ℕ → Front → Packet → Leaving
passed s b to front p = record { from = b; to = to; network = network_to s to; parcel = Wrapped front p }

-- An envelope comes to a node that is up. Where it is the target, its packet is given. Where the envelope goes on or ends, no step
-- happens, not even the end of one.
unfoldable pub takes_course : Answering → Relayed → ℕ → Node → Packet → Course → Relayed
takes_course f r b x p Arrives = given_to f r x p
takes_course f r b x p (GoesOn to front) = leaves r (passed x.core b to front p)
takes_course f r b x p Ends = r

unfoldable pub comes_to : Answering → Relayed → ℕ → Node → Parcel → Relayed
comes_to f r b x (Bare p) = given_to f r x p
comes_to f r b x (Wrapped front p) = takes_course f r b x p (course b x.core.reach front)

unfoldable pub arrives_if : Answering → Relayed → ℕ → ℕ → ℕ → Option Node → Option Parcel → Relayed
arrives_if f r a b k None d = r
arrives_if f r a b k (Some x) None = r
arrives_if f r a b k (Some x) (Some d) = comes_to f (handled r a b k) b x d

-- ---- plain events

-- A delivery is one of a datagram, to whom it was sent; each other event is as in the direct world.
unfoldable pub relays_by : Answering → Relayed → Event → Relayed
relays_by f r (event.Deliver a b k) = arrives_if f r a b k (node_at r.world b) (datagram_between r a b k)
relays_by f r e = settled r (happens_by f r.world e)

abbrev pub relays_on : Relayed → Answered → Relayed
relays_on r e = relays_by e.answers r e.event

-- a node that starts sends nothing
unfoldable pub relayed_new : Config → Relayed
relayed_new c = record { world = world_new c; pairs = []; queue = []; left = [] }

unfoldable pub relayed_after : Config → List Answered → Relayed
relayed_after c es = fold relays_on (relayed_new c) es

-- all records of a list of events with these answers, in order
unfoldable pub relayed_records : Config → List Answered → List Happened
relayed_records c es = reverse_onto (relayed_after c es).world.trace []

-- opens each word of this file, for a computation
unfoldable pub relays_opens : Unit {0}
unfolding is_pair pair_with pairs_with leaves datagram_in datagram_between is_sent handled sends settled given_to takes_course comes_to arrives_if relays_by relayed_new relayed_after relayed_records
relays_opens = tt
