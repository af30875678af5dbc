-- The rings of one network, and what happens to them.
use Rattle.std.specs.Prelude.{ℕ, Bool, true, false, not, ◌==◌, ◌&&◌, ◌||◌, ◌++◌, List, [], ◌∷◌, map, filter, find, Option, Some, None, nat_lt, is_none, slice_get}
use Rattle.std.specs.List.{fold, list_all}
use Rattle.rsct_packet.specs.declared.ids.RingId.{RingId}
use Rattle.rsct_packet.specs.declared.mask.Mask.{Mask}
use Rattle.adapter_ring.specs.declared.packet.RingPacket.{RingPacket}
use Rattle.adapter_ring.specs.declared.packet.RingSend.{RingSend}
use Rattle.adapter_ring.specs.declared.packet.RingEvent.{RingEvent}
use Rattle.adapter_ring.specs.declared.packet.RingEvent.TheVariants.{Tick, Packet}
use Rattle.adapter_ring.specs.declared.ring.Ring.{Ring}
use Rattle.adapter_ring.specs.declared.ring.RingSet.{RingSet}
use Rattle.adapter_ring.specs.declared.ring.RingSettings.{RingSettings}
use Rattle.adapter_ring.specs.declared.work.RingWork.{RingWork}
use Rattle.adapter_ring.specs.Addresses.{has_addr}
use Rattle.adapter_ring.specs.Rings.{neighbour, ring_new, ring_step}

-- what happens to a ring of the network: its node starts in an incarnation, stops, has a tick, or is given the packet
-- that was sent to it as the k-th of all
pub data Happening : Type 0 where
  Starts : (node inc : ℕ) → Happening
  Stops : (node : ℕ) → Happening
  Ticks : (node : ℕ) → Happening
  Given : (k : ℕ) → Happening

-- a packet that a ring sent, from its node in its incarnation
pub record Sent : Type 0 where
  pub from : ℕ
  pub inc : ℕ
  pub to : ℕ
  pub packet : RingPacket

-- a ring record: the node's ring was set
pub record Told : Type 0 where
  pub node : ℕ
  pub id : RingId
  pub members : Mask
  pub neighbour : ℕ

pub record Started : Type 0 where
  pub node : ℕ
  pub inc : ℕ

-- the rings of the nodes that are up, all starts, and in order all packets and all ring records
pub record Network : Type 0 where
  pub net : ℕ
  pub settings : RingSettings
  pub rings : List Ring
  pub starts : List Started
  pub sent : List Sent
  pub told : List Told

unfoldable pub quiet : ℕ → RingSettings → Network
quiet net settings = record { net = net; settings = settings; rings = []; starts = []; sent = []; told = [] }

unfoldable pub ring_at : Network → ℕ → Option Ring
ring_at w n = find (λ (r : Ring). r.me == n) w.rings

-- the node has an adapter and is down, and the incarnation is greater than its earlier ones
unfoldable pub may_start : Network → ℕ → ℕ → Bool
may_start w n inc =
    has_addr w.settings n && is_none (ring_at w n) && list_all (λ (s : Started). not (s.node == n) || nat_lt s.inc inc) w.starts

unfoldable pub ring_told : Ring → Told
ring_told r = record { node = r.me; id = r.id; members = r.members; neighbour = neighbour r }

unfoldable pub ring_started : Network → Ring → Network
ring_started w r =
    record w { rings = r ∷ w.rings; starts = record { node = r.me; inc = r.inc } ∷ w.starts; told = w.told ++ ring_told r ∷ [] }

unfoldable pub sent_by : Ring → RingSend → Sent
sent_by r x = record { from = r.me; inc = r.inc; to = x.to; packet = x.packet }

unfoldable pub told_by : Ring → Option RingSet → List Told
told_by r None = []
told_by r (Some x) = record { node = r.me; id = x.id; members = x.members; neighbour = x.neighbour } ∷ []

-- the ring in place of its node's
unfoldable pub with_ring : Ring → List Ring → List Ring
with_ring r rs = map (λ (x : Ring). elim (x.me == r.me) [ true ↦ r | false ↦ x ]) rs

-- what a ring's step leaves
unfoldable pub step_taken : Network → RingWork → Network
step_taken w x =
    record w {
      rings = with_ring x.ring w.rings;
      sent = w.sent ++ map (sent_by x.ring) x.sends;
      told = w.told ++ told_by x.ring x.set;
    }

-- a node that is down takes nothing
unfoldable pub stepped_in : Network → RingEvent → Option Ring → Network
stepped_in w e None = w
stepped_in w e (Some r) = step_taken w (ring_step r e)

unfoldable pub given_in : Network → Option Sent → Network
given_in w None = w
given_in w (Some x) = stepped_in w (Packet x.from x.inc x.packet) (ring_at w x.to)

-- what cannot happen changes nothing
unfoldable pub happens : Network → Happening → Network
happens w (Starts n inc) = elim (may_start w n inc) [ true ↦ ring_started w (ring_new w.net n inc w.settings) | false ↦ w ]
happens w (Stops n) = record w { rings = filter (λ (r : Ring). not (r.me == n)) w.rings }
happens w (Ticks n) = stepped_in w Tick (ring_at w n)
happens w (Given k) = given_in w (slice_get w.sent k)

unfoldable pub after : Network → List Happening → Network
after w es = fold happens w es

-- opens each word of this file, for a computation
unfoldable pub network_opens : Unit {0}
unfolding quiet ring_at may_start ring_told ring_started sent_by told_by with_ring step_taken stepped_in given_in happens after
network_opens = tt
