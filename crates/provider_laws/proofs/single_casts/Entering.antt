-- What fewer sessions and records by which nothing is heard or cast keep, a node that enters a view keeps.
use Rattle.std.proofs.Common.{ℕ, List, [], ◌∷◌, refl, sym, subst, inl, inr, arith}
use Rattle.std.specs.Prelude.{reverse, map}
use Rattle.std.proofs.lemmas.List.{reverse-append}
use Rattle.rsct_packet.specs.declared.ids.ProviderId.{ProviderId}
use Rattle.rsct_packet.specs.Search.{Has}
use Rattle.rsct_packet.proofs.HasLaws.{has_map}
use Rattle.client_callbacks.specs.declared.told.Why.TheVariants.{Dissolved}
use Rattle.session_state.specs.declared.state.SessionState.{SessionState}
use Rattle.session_state.specs.HandOn.{take_telling}
use Rattle.view_state.specs.declared.install.Install.{Install}
use Rattle.view_state.specs.declared.install.Base.{Base}
use Rattle.view_state.specs.Bases.{bases_of}
use Rattle.view_state.specs.Views.{views_entered}
use Rattle.node_state.specs.declared.happened.Happened.{Happened}
use Rattle.node_state.specs.declared.happened.Happened.TheVariants as happened
use Rattle.node_state.specs.declared.state.Core.{Core}
use Rattle.node_state.specs.State.{held_rows, recorded, recorded_all, with_sessions}
use Rattle.node_state.specs.Applying.{level_set, base_row, base_leader, base_record, view_entered, dissolved}
use Rattle.row_laws.specs.hearing.Changes.{Fewer, entering}
use Rattle.row_laws.proofs.hearing.Sessions.{fewer_same, fewer_told}
use Rattle.row_laws.proofs.hearing.Attending.{pushed, pushed_reverse}
use Rattle.provider_laws.proofs.attending.Sides.{sides_keep}
use Rattle.provider_laws.proofs.single_casts.Asking.{Silent}

module _ (P : SessionState → List Happened → Type 0) (silent : (t : SessionState) (now : List Happened) (r : Happened) → Silent r → P t now → P t (r ∷ now)) (fewer : (t s : SessionState) (now : List Happened) → Fewer t s → P t now → P s now) where
  pub enters_keep : (s : Core) (i : Install) → P s.sessions (reverse s.records) → P (entering s i).sessions (reverse (entering s i).records)
  unfolding view_entered recorded_all base_record level_set dissolved recorded with_sessions
  enters_keep s i k = sides_keep (λ c. P c.sessions (reverse c.records)) tells (held_rows s) s.views.view bs (view_entered s i bs) entered
    where
      bs : List Base
      bs = bases_of i

      t : Core
      t = record s { views = views_entered s.views i; sessions = level_set s i.members; groups = map base_row bs; names = map base_leader bs }

      new : List Happened
      new = happened.In t.views.me i.view i.members ∷ map (base_record t) bs

      tells : (c : Core) (p : ProviderId) (r : ℕ) → P c.sessions (reverse c.records) → P (dissolved c p r).sessions (reverse (dissolved c p r).records)
      tells c p r a =
          subst (P (take_telling c.sessions p r Dissolved)) (sym (reverse-append c.records (happened.Told p r Dissolved ∷ []))) (silent (take_telling c.sessions p r Dissolved) (reverse c.records) (happened.Told p r Dissolved) tt (fewer c.sessions (take_telling c.sessions p r Dissolved) (reverse c.records) (fewer_told c.sessions p r Dissolved) a))

      all_silent : (r : Happened) → Has r new → Silent r
      all_silent r (inl q) = subst Silent (sym q) tt
      all_silent r (inr h) = let q = has_map (base_record t) r bs h in subst Silent (sym q.2) tt

      levelled : P t.sessions (reverse s.records)
      levelled = fewer s.sessions (level_set s i.members) (reverse s.records) (fewer_same s.sessions (level_set s i.members) refl refl (omega arith) refl refl) k

      pushes : (xs now : List Happened) → ((r : Happened) → Has r xs → Silent r) → P t.sessions now → P t.sessions (pushed xs now)
      pushes [] now all a = a
      pushes (r ∷ xs) now all a = pushes xs (r ∷ now) (λ q j. all q (inr j)) (silent t.sessions now r (all r (inl refl)) a)

      entered : P (view_entered s i bs).sessions (reverse (view_entered s i bs).records)
      entered = subst (P t.sessions) (sym (pushed_reverse new s.records)) (pushes new (reverse s.records) all_silent levelled)
