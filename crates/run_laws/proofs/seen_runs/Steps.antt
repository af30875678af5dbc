-- What a step records: no node starts or stops, and what is entered, put, or taken as a base is the node's own.
use Rattle.std.proofs.Common.{refl, ◌≡◌, ℕ, ◌⊎◌, ⊎_elim, inl, inr, sym, ◌∙◌, ap, subst, List, [], ◌∷◌, ◌++◌, Option}
use Rattle.std.specs.Prelude.{map, flat_map}
use Rattle.view_state.specs.Views.{views_entered}
use Rattle.rsct_packet.specs.declared.ids.ViewId.{ViewId}
use Rattle.rsct_packet.specs.Search.{Has}
use Rattle.rsct_packet.proofs.HasLaws.{has_append, has_map}
use Rattle.proposal_core.specs.declared.entry.Entry.{Entry}
use Rattle.client_callbacks.specs.declared.ballot.Filled.{Filled}
use Rattle.session_state.specs.HandOn.{casts_out}
use Rattle.view_state.specs.declared.install.Base.{Base}
use Rattle.view_state.specs.declared.install.Install.{Install}
use Rattle.view_state.specs.Bases.{bases_of}
use Rattle.node_state.specs.declared.group.GroupRow.{GroupRow}
use Rattle.node_state.specs.declared.happened.Happened.{Happened}
use Rattle.node_state.specs.declared.happened.Happened.TheVariants as happened
use Rattle.node_state.specs.declared.state.Core.{Core}
use Rattle.node_state.specs.State.{recorded, recorded_all, with_sessions, with_row, held_rows, state_of, len_of}
use Rattle.node_state.specs.HandOn.{Answering, heard}
use Rattle.node_state.specs.Leading.{put}
use Rattle.node_state.specs.Applying.{base_record, view_entered, sides_dissolved}
use Rattle.node_state.specs.Step.{NodeEvent, at_work, stepped}
use Rattle.row_laws.specs.hearing.Changes.{Same, Inner, entering, handing, Does, Stays, Then, Records, Hands, Loses, Joins, Votes, Enters}
use Rattle.row_laws.proofs.hearing.Viewing.{sides_stand}
use Rattle.row_laws.proofs.hearing.Added.{sides_add}
use Rattle.provider_laws.proofs.single_casts.Adding.{Voiced, all_voiced}

-- of node n
abbrev pub Mine : ℕ → Happened → Type 0
Mine n (happened.Up m j) = ⊥
Mine n (happened.Down m) = ⊥
Mine n (happened.In m v ms) = m ≡ n
Mine n (happened.Base m v g u len s) = m ≡ n
Mine n (happened.Put m v g i e) = m ≡ n
Mine n _ = Unit {0}

inner_mine : (n : ℕ) (r : Happened) → Inner r → Mine n r
inner_mine n (happened.Up m j) a = a
inner_mine n (happened.Down m) a = a
inner_mine n (happened.In m v ms) a = absurd a
inner_mine n (happened.Base m v g u len s) a = absurd a
inner_mine n (happened.Put m v g i e) a = absurd a
inner_mine n _ a = tt

module _ (n : ℕ) where
  -- what is recorded since is the node's own
  abbrev More : List Happened → List Happened → Type 0
  More xs ys = (r : Happened) → Has r ys → Has r xs ⊎ Mine n r

  more_same : (xs ys : List Happened) → ys ≡ xs → More xs ys
  more_same xs ys e r h = inl (subst (Has r) e h)

  more_then : (xs ys zs : List Happened) → More xs ys → More ys zs → More xs zs
  more_then xs ys zs a b r h = ⊎_elim (λ (k : Has r ys). a r k) (λ (m : Mine n r). inr m) (b r h)

  more_append : (xs ys : List Happened) → ((r : Happened) → Has r ys → Mine n r) → More xs (xs ++ ys)
  more_append xs ys all r h = ⊎_elim (λ (k : Has r xs). inl k) (λ (k : Has r ys). inr (all r k)) (has_append r xs ys h)

  sides_more : (rows : List GroupRow) (old : ViewId) (bs : List Base) (c : Core) → More c.records (sides_dissolved c rows old bs).records
  sides_more rows old bs c r h =
      let a = sides_add c rows old bs in more_append c.records a.more (λ q k. inner_mine n q (a.all q k)) r (subst (Has r) a.is h)

  enters_more : (s : Core) (i : Install) → s.views.me ≡ n → More s.records (entering s i).records
  unfolding view_entered recorded_all base_record views_entered
  enters_more s i me =
      more_then s.records d.records (entering s i).records (more_append s.records (happened.In d.views.me i.view i.members ∷ map (base_record d0) bs) own) (sides_more (held_rows s) s.views.view bs d)
    where
      bs : List Base
      bs = bases_of i

      d : Core
      d = view_entered s i bs

      d0 : Core
      d0 = record d { records = s.records }

      own : (r : Happened) → Has r (happened.In d.views.me i.view i.members ∷ map (base_record d0) bs) → Mine n r
      own r (inl e) = subst (Mine n) (sym e) me
      own r (inr h) = let k = has_map (base_record d0) r bs h in subst (Mine n) (sym k.2) me

  voiced_mine : (r : Happened) → Voiced r → Mine n r
  voiced_mine (happened.Heard p v g i e ms value) a = tt
  voiced_mine (happened.Cast p proto phase vote value message) a = tt
  voiced_mine _ a = absurd a

  hands_more : (s c : Core) (h : List ℕ) (e : Entry) (bs : List (Option Filled)) → s.views.me ≡ n → Same (put s h e) c → More s.records (handing c h (len_of s h) (state_of s h) (state_of (put s h e) h) e bs).records
  unfolding recorded_all with_sessions put recorded with_row heard
  hands_more s c h e bs me same =
      more_then s.records c.records (c.records ++ told) (λ r k. put_more r (subst (Has r) same.records k)) (more_append c.records told (λ r k. voiced_mine r (all_voiced c.views.view h (len_of s h) e (state_of (put s h e) h) (casts_out c.sessions h (state_of s h) (state_of (put s h e) h) e bs) r k)))
    where
      told : List Happened
      told = flat_map (heard c h (len_of s h) e (state_of (put s h e) h)) (casts_out c.sessions h (state_of s h) (state_of (put s h e) h) e bs)

      own : (r : Happened) → Has r (happened.Put s.views.me s.views.view h (len_of s h) e ∷ []) → Mine n r
      own r (inl q) = subst (Mine n) (sym q) me
      own r (inr z) = absurd z

      put_more : More s.records (s.records ++ happened.Put s.views.me s.views.view h (len_of s h) e ∷ [])
      put_more = more_append s.records (happened.Put s.views.me s.views.view h (len_of s h) e ∷ []) own

  -- what changes of a node: it stays itself
  record Grows (s t : Core) : Type 0 where
    me : t.views.me ≡ n
    more : More s.records t.records

  does_grows : (s t : Core) → Does s t → s.views.me ≡ n → Grows s t
  unfolding recorded with_sessions put recorded_all view_entered views_entered with_row
  does_grows _ _ (Stays s t same) me = record { me = same.me ∙ me; more = more_same s.records t.records same.records }
  does_grows _ _ (Then s t u a b) me =
      let k = does_grows s t a me in
      let l = does_grows t u b k.me in
      record { me = l.me; more = more_then s.records t.records u.records k.more l.more }
  does_grows _ _ (Records s r inner) me = record { me = me; more = more_append s.records (r ∷ []) (λ q h. one q h) }
    where
      one : (q : Happened) → Has q (r ∷ []) → Mine n q
      one q (inl e) = subst (Mine n) (sym e) (inner_mine n r inner)
      one q (inr z) = absurd z
  does_grows _ _ (Hands s c h e bs order same) me = record { me = same.me ∙ me; more = hands_more s c h e bs me same }
  does_grows _ _ (Loses s t fewer) me = record { me = me; more = more_same s.records s.records refl }
  does_grows _ _ (Joins s t g instance attrs none) me = record { me = me; more = more_same s.records s.records refl }
  does_grows _ _ (Votes s x o b here opened free) me = record { me = me; more = more_append s.records (happened.Cast x.provider o.proto o.phase b.vote b.value b.message ∷ []) (λ q h. one q h) }
    where
      one : (q : Happened) → Has q (happened.Cast x.provider o.proto o.phase b.vote b.value b.message ∷ []) → Mine n q
      one q (inl e) = subst (Mine n) (sym e) tt
      one q (inr z) = absurd z
  does_grows _ _ (Enters s i lt none) me =
      record { me = ap (λ z. z.me) (sides_stand (view_entered s i (bases_of i)) (held_rows s) s.views.view (bases_of i)).views ∙ me; more = enters_more s i me }

-- each record of a step is the node's own
pub step_mine : (f : Answering) (s : Core) (e : NodeEvent) (n : ℕ) → s.views.me ≡ n → Does (at_work s) (stepped f s e) → (r : Happened) → Has r (stepped f s e).records → Mine n r
step_mine f s e n me does r h =
    ⊎_elim (λ (a : ⊥). absurd a) (λ (m : Mine n r). m) ((does_grows n (at_work s) (stepped f s e) does me).more r h)
