-- What a step records since its call: puts of its own node, and nothing that is started, stopped, asked or refused.
use Rattle.std.proofs.Common.{◌≡◌, ◌⊎◌, ℕ, List, [], ◌∷◌, ◌++◌, Option, sym, ◌∙◌, subst, inl, inr}
use Rattle.std.specs.Prelude.{map, flat_map}
use Rattle.rsct_packet.specs.declared.ids.ProviderId.{ProviderId}
use Rattle.rsct_packet.specs.Search.{Has}
use Rattle.rsct_packet.proofs.HasLaws.{has_append, has_map}
use Rattle.proposal_core.specs.declared.entry.Entry.{Entry}
use Rattle.proposal_core.specs.declared.group_state.GroupState.{GroupState}
use Rattle.client_callbacks.specs.declared.ballot.Filled.{Filled}
use Rattle.client_callbacks.specs.declared.told.Why.{Why}
use Rattle.session_state.specs.State.{provider_of}
use Rattle.session_state.specs.HandOn.{casts_out, take_telling}
use Rattle.view_state.specs.declared.install.Install.{Install}
use Rattle.view_state.specs.Bases.{bases_of}
use Rattle.view_state.specs.Views.{views_entered}
use Rattle.node_state.specs.declared.happened.Happened.{Happened}
use Rattle.node_state.specs.declared.happened.Happened.TheVariants as happened
use Rattle.node_state.specs.declared.state.Core.{Core}
use Rattle.node_state.specs.State.{InNameOrder, with_row, state_of, len_of, recorded, recorded_all, with_sessions}
use Rattle.node_state.specs.HandOn.{heard}
use Rattle.node_state.specs.Leading.{put}
use Rattle.node_state.specs.Applying.{level_set, base_record, view_entered}
use Rattle.step_refinement.proofs.BaseOrder.{bases_ordered}
use Rattle.row_laws.specs.hearing.Changes.{Same, handing}
use Rattle.row_laws.proofs.hearing.Attending.{heard_at}
use Rattle.run_laws.proofs.gapless.Growing.{Inert}
use Rattle.run_laws.proofs.gapless.Standing.{JoinWaits, told_joins, handed_joins}
use Rattle.run_laws.proofs.gapless.Putting.{heards_inert}
use Rattle.run_laws.proofs.gapless.TakerWalk.{Fine, Alike, Keeps}
use Rattle.run_laws.proofs.gapless.Keeping.{fine_inert}

abbrev pub Walked : ℕ → Happened → Type 0
Walked n (happened.Up m j) = ⊥
Walked n (happened.Down m) = ⊥
Walked n (happened.Put m v g i e) = m ≡ n
Walked n (happened.Asked p r g x) = ⊥
Walked n (happened.Refused m c fault) = ⊥
Walked n _ = Unit {0}

inert_walked : (n : ℕ) (r : Happened) → Inert r → Walked n r
inert_walked n (happened.Up m j) a = absurd a
inert_walked n (happened.Down m) a = absurd a
inert_walked n (happened.Put m v g i e) a = absurd a
inert_walked n (happened.Asked p r g x) a = absurd a
inert_walked n (happened.Refused m c f) a = absurd a
inert_walked n _ a = tt

module _ (n : ℕ) (root : List Happened) where
  pub record Added (s : Core) : Type 0 where
    pub order : InNameOrder s.groups
    pub me : s.views.me ≡ n
    pub joins : JoinWaits s.sessions
    pub all : (r : Happened) → Has r s.records → Has r root ⊎ Walked n r

  added_alike : (s t : Core) → Alike s t → Added s → Added t
  added_alike s t a k = record { order = a.order k.order; me = a.same.me ∙ k.me; joins = subst JoinWaits (sym a.same.sessions) k.joins; all = λ r i. k.all r (subst (Has r) a.same.records i) }

  one_more : (rs : List Happened) (x r : Happened) → Walked n x → ((r : Happened) → Has r rs → Has r root ⊎ Walked n r) → Has r (rs ++ x ∷ []) → Has r root ⊎ Walked n r
  one_more rs x r w all i = by (has_append r rs (x ∷ []) i)
    where
      by : Has r rs ⊎ Has r (x ∷ []) → Has r root ⊎ Walked n r
      by (inl j) = all r j
      by (inr (inl e)) = inr (subst (Walked n) (sym e) w)
      by (inr (inr z)) = absurd z

  added_records : (s : Core) (r : Happened) → Fine r → Added s → Added (recorded s r)
  unfolding recorded
  added_records s x fine k = record { order = k.order; me = k.me; joins = k.joins; all = λ r i. one_more s.records x r (inert_walked n x (fine_inert x fine)) k.all i }

  added_tells : (s : Core) (p : ProviderId) (r : ℕ) (y : Why) → Added s → Added (recorded (with_sessions s (take_telling s.sessions p r y)) (happened.Told p r y))
  unfolding recorded with_sessions
  added_tells s p q y k = record { order = k.order; me = k.me; joins = told_joins s.sessions p q y k.joins; all = λ r i. one_more s.records (happened.Told p q y) r tt k.all i }

  added_hands : (s c : Core) (h : List ℕ) (e : Entry) (bs : List (Option Filled)) → Same (put s h e) c → InNameOrder c.groups → Added s → Added (handing c h (len_of s h) (state_of s h) (state_of (put s h e) h) e bs)
  unfolding put recorded recorded_all with_sessions with_row heard
  added_hands s c h e bs same order k =
      record { order = order; me = same.me ∙ k.me; joins = handed_joins c.sessions h (state_of s h) st e bs (subst JoinWaits (sym same.sessions) k.joins); all = λ r i. by r (has_append r c.records (flat_map (heard_at c.views.view h (len_of s h) e st) (casts_out c.sessions h (state_of s h) st e bs)) i) }
    where
      st : GroupState
      st = state_of (put s h e) h

      by : (r : Happened) → Has r c.records ⊎ Has r (flat_map (heard_at c.views.view h (len_of s h) e st) (casts_out c.sessions h (state_of s h) st e bs)) → Has r root ⊎ Walked n r
      by r (inl i) = one_more s.records (happened.Put s.views.me s.views.view h (len_of s h) e) r k.me k.all (subst (Has r) same.records i)
      by r (inr i) = inr (inert_walked n r (heards_inert c.views.view h (len_of s h) e st (casts_out c.sessions h (state_of s h) st e bs) r i))

  added_enters : (s : Core) (i : Install) → Added s → Added (view_entered s i (bases_of i))
  unfolding view_entered recorded_all views_entered base_record level_set provider_of
  added_enters s i k =
      record { order = bases_ordered i; me = k.me; joins = k.joins; all = λ r h. by r (has_append r s.records (happened.In s.views.me i.view i.members ∷ map (base_record (view_entered s i (bases_of i))) (bases_of i)) h) }
    where
      new : (r : Happened) → Has r (happened.In s.views.me i.view i.members ∷ map (base_record (view_entered s i (bases_of i))) (bases_of i)) → Walked n r
      new r (inl e) = subst (Walked n) (sym e) tt
      new r (inr h) = let q = has_map (base_record (view_entered s i (bases_of i))) r (bases_of i) h in subst (Walked n) (sym q.2) tt

      by : (r : Happened) → Has r s.records ⊎ Has r (happened.In s.views.me i.view i.members ∷ map (base_record (view_entered s i (bases_of i))) (bases_of i)) → Has r root ⊎ Walked n r
      by r (inl j) = k.all r j
      by r (inr j) = inr (new r j)

  pub added_keeps : Keeps Added
  added_keeps = record { order = λ s k. k.order; alike = added_alike; records = added_records; tells = added_tells; hands = added_hands; enters = added_enters }
