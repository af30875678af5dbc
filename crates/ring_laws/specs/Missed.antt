-- When a ring misses a member: only behind silence, told of or seen.
use Rattle.std.specs.Prelude.{◌≡◌, ◌≤◌, ◌⊎◌, ℕ, ◌+◌, ◌*◌, Bool, true, false, ◌==◌, ◌&&◌, ◌||◌, List, [], ◌∷◌, Some, is_some, if◌then◌else◌}
use Rattle.rsct_packet.specs.declared.ids.RingId.{RingId}
use Rattle.rsct_packet.specs.declared.mask.Mask.{Mask}
use Rattle.rsct_packet.specs.Ids.{same_ring}
use Rattle.rsct_packet.specs.Mask.{has_node}
use Rattle.rsct_packet.specs.Search.{Has}
use Rattle.adapter_ring.specs.declared.packet.RingPacket.{RingPacket}
use Rattle.adapter_ring.specs.declared.packet.RingPacket.TheVariants.{Heartbeat, Ptc, Commit, Death}
use Rattle.adapter_ring.specs.declared.packet.RingEvent.{RingEvent}
use Rattle.adapter_ring.specs.declared.packet.RingEvent.TheVariants.{Tick, Packet}
use Rattle.adapter_ring.specs.declared.packet.RingSend.{RingSend}
use Rattle.adapter_ring.specs.declared.ring.Gathering.{Gathering}
use Rattle.adapter_ring.specs.declared.ring.Ring.{Ring}
use Rattle.adapter_ring.specs.declared.ring.RingSet.{RingSet}
use Rattle.adapter_ring.specs.declared.ring.RingSettings.{RingSettings}
use Rattle.adapter_ring.specs.Rings.{upstream, is_shared, ring_step, ring_new}

-- the ring after these events, the latest first
abbrev pub after : Ring → List RingEvent → Ring
after r [] = r
after r (e ∷ es) = (ring_step (after r es) e).ring

abbrev pub ticks_of : RingEvent → ℕ
ticks_of Tick = 1
ticks_of (Packet from inc x) = 0

-- a heartbeat of this ring comes from the member that it watches
abbrev pub is_beat : Ring → RingEvent → Bool
is_beat r (Packet from inc (Heartbeat id)) = same_ring id r.id && is_shared r && from == upstream r
is_beat r _ = false

-- how many ticks came since such a heartbeat, and since the ring was set
abbrev pub silence : Ring → List RingEvent → ℕ
silence r [] = 0
silence r (e ∷ es) =
    if is_beat (after r es) e || is_some (ring_step (after r es) e).set then 0 else silence r es + ticks_of e

-- this event is a tick, and at least so many were silent, this one with them, of k before it
pub record IsSilent (e : RingEvent) (k most : ℕ) : Type 0 where
  pub tick : e ≡ Tick
  pub long : most ≤ k + 1

-- the member that the adapter watches is missed
pub record IsMissed (r : Ring) (e : RingEvent) (k d : ℕ) : Type 0 where
  pub silent : IsSilent e k (r.settings.every * r.settings.misses)
  pub watched : d ≡ upstream r

-- a DEATH of this ring came, of that member
pub record CameDead (r : Ring) (e : RingEvent) (d : ℕ) : Type 0 where
  pub from : ℕ
  pub inc : ℕ
  pub id : RingId
  pub came : e ≡ Packet from inc (Death id d)
  pub same : same_ring id r.id ≡ true

-- of the members of the ring those alone are not among the asked that are missed or told dead
abbrev pub LeavesOutTheDead : Ring → RingEvent → ℕ → Mask → Type 0
LeavesOutTheDead r e k asked =
    (d : ℕ) → has_node r.members d ≡ true → has_node asked d ≡ false → IsMissed r e k d ⊎ CameDead r e d

-- what may be sent in the event
abbrev pub MayBeSent : Ring → RingEvent → ℕ → RingPacket → Type 0
MayBeSent r e k (Death id d) = IsMissed r e k d × (id ≡ r.id)
MayBeSent r e k (Ptc id asked) = LeavesOutTheDead r e k asked
MayBeSent r e k _ = Unit {0}

-- the leader of the other ring commits it
pub record IsCommitted (e : RingEvent) (x : RingSet) : Type 0 where
  pub inc : ℕ
  pub came : e ≡ Packet x.id.leader inc (Commit x.id x.members)

-- the adapter's own gathering closes, and whom it asked is a member then, unless this is its second tick
pub record IsGathered (r : Ring) (e : RingEvent) (x : RingSet) : Type 0 where
  pub gathering : Gathering
  pub there : r.gathering ≡ Some gathering
  pub id : x.id ≡ gathering.gather.id
  pub asked : ((e ≡ Tick) × (1 ≤ gathering.age)) ⊎ ((d : ℕ) → has_node gathering.gather.asked d ≡ true → has_node x.members d ≡ true)

-- it opens one that closes at once
pub record IsOpened (r : Ring) (e : RingEvent) (k : ℕ) (x : RingSet) : Type 0 where
  pub asked : Mask
  pub leader : x.id.leader ≡ r.me
  pub left_out : LeavesOutTheDead r e k asked
  pub all : (d : ℕ) → has_node asked d ≡ true → has_node x.members d ≡ true

-- to what it may be set: the last is that it is alone
abbrev pub MayBeSet : Ring → RingEvent → ℕ → RingSet → Type 0
MayBeSet r e k x =
    IsCommitted e x ⊎ (IsGathered r e x ⊎ (IsOpened r e k x ⊎ IsSilent e k (3 * (r.settings.every * r.settings.misses))))

-- of one event, behind k silent ticks
pub record MissesTheSilent (r : Ring) (e : RingEvent) (k : ℕ) : Type 0 where
  pub sent : (x : RingSend) → Has x (ring_step r e).sends → MayBeSent r e k x.packet
  pub set : (x : RingSet) → (ring_step r e).set ≡ Some x → MayBeSet r e k x

-- whatever comes to an adapter that starts
abbrev pub OnlyTheSilentAreMissed : Type 0
OnlyTheSilentAreMissed =
    (net me inc : ℕ) (s : RingSettings) (es : List RingEvent) (e : RingEvent) → let r : Ring = ring_new net me inc s in MissesTheSilent (after r es) e (silence r es)
