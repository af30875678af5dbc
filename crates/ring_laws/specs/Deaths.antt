-- Deaths that the rings of a network tell of one another: each was told behind silence, by the one that watched.
use Rattle.std.specs.Prelude.{◌≡◌, ℕ, ◌==◌, ◌&&◌, List, [], ◌∷◌, ◌++◌, Option, Some, None, slice_get, if◌then◌else◌}
use Rattle.rsct_packet.specs.declared.ids.RingId.{RingId}
use Rattle.rsct_packet.specs.Search.{Has}
use Rattle.adapter_ring.specs.declared.packet.RingPacket.TheVariants.{Death}
use Rattle.adapter_ring.specs.declared.packet.RingEvent.{RingEvent}
use Rattle.adapter_ring.specs.declared.packet.RingEvent.TheVariants.{Tick, Packet}
use Rattle.adapter_ring.specs.declared.ring.RingSettings.{RingSettings}
use Rattle.adapter_ring.specs.Network.{Happening, Starts, Stops, Ticks, Given, Sent, Network, quiet, may_start, happens}
use Rattle.adapter_ring.specs.Rings.{ring_new}
use Rattle.ring_laws.specs.Missed.{after, silence, IsMissed}

-- the network after these happenings, the latest first
abbrev pub network : ℕ → RingSettings → List Happening → Network
network net s [] = quiet net s
network net s (h ∷ hs) = happens (network net s hs) h

-- what is given, where it is for the node
abbrev pub given_to : ℕ → Option Sent → Option RingEvent
given_to n None = None
given_to n (Some x) = if x.to == n then Some (Packet x.from x.inc x.packet) else None

-- what a happening brings to the ring of a node that is up
abbrev pub comes_to : Network → ℕ → Happening → Option RingEvent
comes_to w n (Starts m inc) = None
comes_to w n (Stops m) = None
comes_to w n (Ticks m) = if m == n then Some Tick else None
comes_to w n (Given k) = given_to n (slice_get w.sent k)

abbrev pub with_event : Option RingEvent → List RingEvent → List RingEvent
with_event None es = es
with_event (Some e) es = e ∷ es

abbrev pub lived : Network → ℕ → Happening → List RingEvent → List RingEvent
lived w n (Starts m inc) old = if m == n && may_start w m inc then [] else old
lived w n h old = with_event (comes_to w n h) old

-- what came to the node since it started last, the latest first
abbrev pub life : ℕ → RingSettings → List Happening → ℕ → List RingEvent
life net s [] n = []
life net s (h ∷ hs) n = lived (network net s hs) n h (life net s hs n)

-- At some tick of the node before, as it was in a ring of that id, it watched that member, and had heard no heartbeat of it for
-- `every * misses` ticks, that one with them.
pub record WasSilent (net : ℕ) (s : RingSettings) (hs : List Happening) (n : ℕ) (id : RingId) (d : ℕ) : Type 0 where
  pub later : List Happening
  pub front : List Happening
  pub moment : hs ≡ later ++ Ticks n ∷ front
  pub inc : ℕ
  pub missed : IsMissed (after (ring_new net n inc s) (life net s front n)) Tick (silence (ring_new net n inc s) (life net s front n)) d
  pub of : id ≡ (after (ring_new net n inc s) (life net s front n)).id

-- whatever happens to the rings of a network
abbrev pub DeathsAreOfTheSilent : Type 0
DeathsAreOfTheSilent =
    (net : ℕ) (s : RingSettings) (hs : List Happening) (x : Sent) (id : RingId) (d : ℕ) → Has x (network net s hs).sent → x.packet ≡ Death id d → WasSilent net s hs x.from id d
