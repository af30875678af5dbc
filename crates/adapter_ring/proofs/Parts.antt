-- What holds of the rings of a network: its parts.
use Rattle.std.proofs.Common.{◌≡◌, ℕ, ◌+◌, ◌<◌, ◌≤◌, ◌⊎◌, Bool, true, false, List, ◌∷◌, Option, Some, None, refl, sym, ap, ◌∙◌, subst, inl, inr, ⊎_elim, arith}
use Rattle.std.specs.Prelude.{IsTrue}
use Rattle.rsct_packet.specs.declared.ids.RingId.{RingId}
use Rattle.rsct_packet.specs.declared.mask.Mask.{Mask}
use Rattle.rsct_packet.specs.Mask.{has_node}
use Rattle.rsct_packet.specs.Search.{Has}
use Rattle.ring_commit.specs.declared.gather.Gather.{Gather}
use Rattle.adapter_ring.specs.declared.packet.RingPacket.{RingPacket}
use Rattle.adapter_ring.specs.declared.packet.RingPacket.TheVariants.{Heartbeat, Proclaim, Join, Ptc, PtcAck, Commit, Death}
use Rattle.adapter_ring.specs.declared.packet.RingSend.{RingSend}
use Rattle.adapter_ring.specs.declared.ring.Ring.{Ring}
use Rattle.adapter_ring.specs.declared.ring.RingSet.{RingSet}
use Rattle.adapter_ring.specs.declared.ring.RingSettings.{RingSettings}
use Rattle.adapter_ring.specs.declared.ring.Gathering.{Gathering}
use Rattle.adapter_ring.specs.declared.work.RingWork.{RingWork}
use Rattle.adapter_ring.specs.Addresses.{addr_of}
use Rattle.adapter_ring.specs.Agreement.{HasGreatest, IsNeighbour}

-- a ring that its leader made: it was alone, or closed a gathering
pub record Made : Type 0 where
  pub id : RingId
  pub members : Mask

pub record Books (s : RingSettings) (made : List Made) : Type 0 where
  pub one : (a b : Made) → Has a made → Has b made → a.id ≡ b.id → a.members ≡ b.members
  pub led : (a : Made) → Has a made → HasGreatest s a.id.leader a.members

-- a gathering of me for a ring that is not made yet
pub record GatheringOk (s : RingSettings) (made : List Made) (me inc last : ℕ) (g : Gather) : Type 0 where
  pub leader : g.id.leader ≡ me
  pub life : g.id.inc ≡ inc
  pub number : g.id.number ≤ last
  pub fresh : (a : Made) → Has a made → a.id ≡ g.id → ⊥
  pub asked : HasGreatest s me g.asked
  pub acked : HasGreatest s me g.acked

abbrev pub GathersOk : RingSettings → List Made → ℕ → ℕ → ℕ → Option Gathering → Type 0
GathersOk s made me inc last None = Unit {0}
GathersOk s made me inc last (Some g) = GatheringOk s made me inc last g.gather

-- a ring, of whose own numbers none is used past the last
pub record RingOk (s : RingSettings) (made : List Made) (r : Ring) : Type 0 where
  pub settings : r.settings ≡ s
  pub addr : 0 < addr_of s r.me
  pub own : Has (record { id = r.id; members = r.members }) made
  pub mine : IsTrue (has_node r.members r.me)
  pub below : (a : Made) → Has a made → a.id.leader ≡ r.me → a.id.inc ≡ r.inc → a.id.number ≤ r.last
  pub gathers : GathersOk s made r.me r.inc r.last r.gathering

-- what is committed was made
abbrev pub PacketOk : List Made → RingPacket → Type 0
PacketOk made (Heartbeat id) = Unit {0}
PacketOk made (Proclaim id) = Unit {0}
PacketOk made (Join ms) = Unit {0}
PacketOk made (Ptc id ms) = Unit {0}
PacketOk made (PtcAck id) = Unit {0}
PacketOk made (Commit id ms) = Has (record { id = id; members = ms }) made
PacketOk made (Death id d) = Unit {0}

-- what the node n was set to was made
pub record SetOk (s : RingSettings) (made : List Made) (n : ℕ) (id : RingId) (ms : Mask) (b : ℕ) : Type 0 where
  pub own : Has (record { id = id; members = ms }) made
  pub mine : IsTrue (has_node ms n)
  pub beside : IsNeighbour s n ms b

abbrev pub SetsOk : RingSettings → List Made → ℕ → Option RingSet → Type 0
SetsOk s made n None = Unit {0}
SetsOk s made n (Some x) = SetOk s made n x.id x.members x.neighbour

-- a ring of the node n in its incarnation, at work: what it made since is its own
pub record WorkOk (s : RingSettings) (n inc : ℕ) (before made : List Made) (w : RingWork) : Type 0 where
  pub kept : (a : Made) → Has a before → Has a made
  pub new : (a : Made) → Has a made → Has a before ⊎ ((a.id.leader ≡ n) × (a.id.inc ≡ inc))
  pub books : Books s made
  pub me : w.ring.me ≡ n
  pub life : w.ring.inc ≡ inc
  pub ring : RingOk s made w.ring
  pub sends : (x : RingSend) → Has x w.sends → PacketOk made x.packet
  pub set : SetsOk s made w.ring.me w.set

pub packet_kept : (made more : List Made) → ((a : Made) → Has a made → Has a more) → (p : RingPacket) → PacketOk made p → PacketOk more p
packet_kept made more k (Heartbeat id) h = tt
packet_kept made more k (Proclaim id) h = tt
packet_kept made more k (Join ms) h = tt
packet_kept made more k (Ptc id ms) h = tt
packet_kept made more k (PtcAck id) h = tt
packet_kept made more k (Commit id ms) h = k (record { id = id; members = ms }) h
packet_kept made more k (Death id d) h = tt

pub sets_kept : (s : RingSettings) (made more : List Made) → ((a : Made) → Has a made → Has a more) → (n : ℕ) (o : Option RingSet) → SetsOk s made n o → SetsOk s more n o
sets_kept s made more k n None h = tt
sets_kept s made more k n (Some x) h =
    record { own = k (record { id = x.id; members = x.members }) h.own; mine = h.mine; beside = h.beside }

-- a new ring goes into the books
pub books_more : (s : RingSettings) (made : List Made) (a : Made) → Books s made → ((b : Made) → Has b made → b.id ≡ a.id → ⊥) → HasGreatest s a.id.leader a.members → Books s (a ∷ made)
books_more s made a k fresh great =
    record {
      one = one;
      led = λ b h. ⊎_elim (λ (e : b ≡ a). subst (λ (z : Made). HasGreatest s z.id.leader z.members) (sym e) great) (λ (g : Has b made). k.led b g) h;
    }
  where
    one : (b c : Made) → Has b (a ∷ made) → Has c (a ∷ made) → b.id ≡ c.id → b.members ≡ c.members
    one b c (inl f) (inl g) e = ap (λ (z : Made). z.members) f ∙ sym (ap (λ (z : Made). z.members) g)
    one b c (inl f) (inr g) e = absurd (fresh c g (sym e ∙ ap (λ (z : Made). z.id) f))
    one b c (inr f) (inl g) e = absurd (fresh b f (e ∙ ap (λ (z : Made). z.id) g))
    one b c (inr f) (inr g) e = k.one b c f g e

-- a later last number fits too
pub gathers_later : (s : RingSettings) (made : List Made) (me inc last : ℕ) (o : Option Gathering) → GathersOk s made me inc last o → GathersOk s made me inc (last + 1) o
gathers_later s made me inc last None h = tt
gathers_later s made me inc last (Some g) h =
    let n = h.number in
    record { leader = h.leader; life = h.life; number = omega arith; fresh = h.fresh; asked = h.asked; acked = h.acked }

-- what holds of both holds of the one that is chosen
pub either : {A : Type 0} (P : A → Type 0) (b : Bool) (x y : A) → (b ≡ true → P x) → (b ≡ false → P y) → P (elim b [ true ↦ x | false ↦ y ])
either P true x y f g = f refl
either P false x y f g = g refl
