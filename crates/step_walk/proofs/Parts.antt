-- Putting and delivering keep what putting, sending, and what is recorded and what becomes of the sessions as an entry is heard, each keep.
use Rattle.std.proofs.Common.{ℕ, List, [], ◌∷◌, Option, refl, sym, subst, inl, inr, append_assoc, append-nil}
use Rattle.std.specs.Prelude.{map}
use Rattle.rsct_packet.specs.Search.{Has}
use Rattle.rsct_packet.proofs.HasLaws.{has_map}
use Rattle.proposal_core.specs.declared.entry.Entry.{Entry}
use Rattle.proposal_core.specs.declared.group_state.GroupState.{GroupState}
use Rattle.client_callbacks.specs.declared.ballot.Filled.{Filled}
use Rattle.view_state.specs.declared.install.Install.{Install}
use Rattle.view_state.specs.Bases.{bases_of}
use Rattle.view_state.specs.Views.{views_entered}
use Rattle.node_state.specs.declared.happened.Happened.{Happened}
use Rattle.node_state.specs.declared.happened.Happened.TheVariants as happened
use Rattle.node_state.specs.declared.state.Core.{Core}
use Rattle.node_state.specs.State.{state_of, len_of, recorded, recorded_all}
use Rattle.node_state.specs.Leading.{put}
use Rattle.node_state.specs.Applying.{level_set, base_row, base_leader, base_record, view_entered}
use Rattle.step_walk.proofs.Changes.{put_sent, handing, KeepsParts}
use Rattle.step_walk.proofs.Evidence.{KeepsDelivery}
use Rattle.step_walk.proofs.Delivering.{at_handing, at_delivered}
use Rattle.node_state.specs.declared.packet.Body.TheVariants as body

module _ (P : Core → Type 0) (Ok : List ℕ → Type 0) (parts : KeepsParts P Ok) where
  delivery : (g : List ℕ) (e : Entry) → KeepsDelivery P g e
  delivery g e =
      record { sends = λ s network to v place stable p. parts.sends s network to (body.Entry v g place stable e) tt p; hears = λ s before after bs c i j p. parts.hears s g before after e bs c i j p; casts = parts.casts; handed = λ s before after bs kept p. parts.handed s g before after e bs p }

  pub on_handing : (c : Core) (g : List ℕ) (i : ℕ) (before after : GroupState) (e : Entry) (bs : List (Option Filled)) → P c → P (handing c g i before after e bs)
  on_handing c g i before after e bs p = at_handing P g e (delivery g e) c i before after bs p

  pub on_hands : (s : Core) (g : List ℕ) (e : Entry) (ns : List ℕ) (stable : ℕ) (bs : List (Option Filled)) → Ok g → P s → P (handing (put_sent s g e ns stable) g (len_of s g) (state_of s g) (state_of (put s g e) g) e bs)
  on_hands s g e ns stable bs ok p = at_delivered P g e (delivery g e) s ns stable bs (parts.puts s g e ok p)

-- a record of an entering
abbrev pub IsEntering : Happened → Type 0
IsEntering (happened.In n v ms) = Unit {0}
IsEntering (happened.Base n v g u len s) = Unit {0}
IsEntering _ = ⊥

-- a view is entered, and nothing is recorded of it yet
abbrev pub entering : Core → Install → Core
entering s i =
    record s { views = views_entered s.views i; sessions = level_set s i.members; groups = map base_row (bases_of i); names = map base_leader (bases_of i) }

module _ (P : Core → Type 0) (records : (s : Core) (r : Happened) → IsEntering r → P s → P (recorded s r)) where
  on_records : (rs : List Happened) {s : Core} → ((r : Happened) → Has r rs → IsEntering r) → P s → P (recorded_all s rs)
  unfolding recorded recorded_all
  on_records [] {s} all p = subst (λ z. P (record s { records = z })) (sym (append-nil s.records)) p
  on_records (r ∷ rs) {s} all p =
      subst (λ z. P (record s { records = z })) (append_assoc s.records (r ∷ []) rs) (on_records rs (λ q h. all q (inr h)) (records s r (all r (inl refl)) p))

  pub on_enters : (s : Core) (i : Install) → P (entering s i) → P (view_entered s i (bases_of i))
  unfolding view_entered base_record
  on_enters s i p = on_records (happened.In t.views.me i.view i.members ∷ map (base_record t) (bases_of i)) all p
    where
      t : Core
      t = entering s i

      all : (r : Happened) → Has r (happened.In t.views.me i.view i.members ∷ map (base_record t) (bases_of i)) → IsEntering r
      all r (inl e) = subst IsEntering (sym e) tt
      all r (inr h) = let m = has_map (base_record t) r (bases_of i) h in subst IsEntering (sym m.2) tt
