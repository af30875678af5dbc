-- The ring records of each network whose addresses differ show themselves that the rings agree.
use Rattle.std.proofs.Common.{ℕ, List, [], ◌∷◌, Bool, refl, sym, subst, inl, inr}
use Rattle.std.specs.Prelude.{if◌then◌else◌}
use Rattle.std.proofs.lemmas.Bool.{eq-eqb}
use Rattle.rsct_packet.specs.declared.ids.RingId.{RingId}
use Rattle.rsct_packet.specs.declared.mask.Mask.{Mask}
use Rattle.rsct_packet.specs.Search.{Has}
use Rattle.rsct_packet.proofs.HasLaws.{append_has_left, append_has_right}
use Rattle.adapter_ring.specs.declared.ring.RingSettings.{RingSettings}
use Rattle.adapter_ring.specs.Network.{Told}
use Rattle.adapter_ring.specs.Agreement.{RingsAgree}
use Rattle.node_state.specs.declared.happened.Happened.{Happened}
use Rattle.node_state.specs.declared.happened.Happened.TheVariants as happened
use Rattle.run_safety.specs.Past.{records_of}
use Rattle.run_laws.specs.ring_runs.Rings.{ring_settings, told_on, rings_told}
use Rattle.run_laws.proofs.ring_runs.Law.{rings_agree_in_runs}
use Rattle.run_laws.specs.seen_runs.Rings.{RingSeenAt, RingSeen, RingsSeen}
use Rattle.run_laws.specs.seen_runs.Law.{EveryRingIsSeen, EveryTraceIsSeenWithRings}
use Rattle.run_laws.proofs.seen_runs.Law.{traces_seen}

told : ℕ → RingId → Mask → ℕ → Told
told n id ms b = record { node = n; id = id; members = ms; neighbour = b }

module _ (net : ℕ) where
  -- a ring record of the network is among what is said of it
  told_has : (n : ℕ) (id : RingId) (ms : Mask) (b : ℕ) (rs : List Happened) → Has (happened.Ring n net id ms b) rs → Has (told n id ms b) (rings_told net rs)
  unfolding told
  told_has n id ms b [] h = absurd h
  told_has n id ms b (r ∷ rs) (inr h) = append_has_right (told n id ms b) (told_on net r) (rings_told net rs) (told_has n id ms b rs h)
  told_has n id ms b (r ∷ rs) (inl e) =
      append_has_left (told n id ms b) (told_on net r) (rings_told net rs) (subst (λ z. Has (told n id ms b) (told_on net z)) e here)
    where
      here : Has (told n id ms b) (told_on net (happened.Ring n net id ms b))
      here = subst (λ (c : Bool). Has (told n id ms b) (if c then told n id ms b ∷ [] else [])) (sym (eq-eqb net net refl)) (inl refl)

  module _ (s : RingSettings) (all : List Happened) (agree : RingsAgree s (rings_told net all)) where
    ring_seen : (rs : List Happened) (r : Happened) → Has r all → ((q : Happened) → Has q rs → Has q all) → RingSeen net rs r
    unfolding told
    ring_seen rs (happened.Ring n k id ms b) h older = λ same. at (subst (λ z. Has (happened.Ring n z id ms b) all) same h)
      where
        at : Has (happened.Ring n net id ms b) all → RingSeenAt rs n net id ms b
        at h =
            let own : Has (told n id ms b) (rings_told net all) = told_has n id ms b all h in
            record {
              same = λ m ns d i. agree.same (told m id ns d) (told n id ms b) (told_has m id ns d all (older (happened.Ring m net id ns d) i)) own refl;
              mine = agree.mine (told n id ms b) own;
              led = (agree.led (told n id ms b) own).among;
              beside = (agree.beside (told n id ms b) own).among;
            }
    ring_seen rs _ h older = tt

    rings_seen : (rs : List Happened) → ((q : Happened) → Has q rs → Has q all) → RingsSeen net rs
    rings_seen [] older = tt
    rings_seen (r ∷ rs) older =
        (ring_seen rs r (older r (inl refl)) (λ q h. older q (inr h)), rings_seen rs (λ q h. older q (inr h)))

pub every_ring_seen : EveryRingIsSeen
every_ring_seen c w k net fit =
    rings_seen net (ring_settings c net) (records_of w.before) (rings_agree_in_runs c w k net fit) (records_of w.before) (λ q h. h)

pub traces_seen_with_rings : EveryTraceIsSeenWithRings
traces_seen_with_rings c w k fit = record { seen = traces_seen c w k; rings = λ net. every_ring_seen c w k net (fit net) }
