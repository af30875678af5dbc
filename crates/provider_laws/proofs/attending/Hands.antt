-- An entry that is put and handed on, where putting it left the same state: what holds of what the node before it makes holds after it.
use Rattle.std.proofs.Common.{◌≡◌, ℕ, List, [], ◌∷◌, ◌++◌, Option, sym, ap, ◌∙◌, subst}
use Rattle.std.specs.Prelude.{reverse, flat_map}
use Rattle.std.proofs.lemmas.List.{reverse-append}
use Rattle.rsct_packet.specs.declared.ids.ViewId.{ViewId}
use Rattle.proposal_core.specs.declared.entry.Entry.{Entry}
use Rattle.proposal_core.specs.declared.group_state.GroupState.{GroupState}
use Rattle.client_callbacks.specs.declared.ballot.Filled.{Filled}
use Rattle.session_state.specs.declared.state.SessionState.{SessionState}
use Rattle.session_state.specs.HandOn.{casts_out, handed_on}
use Rattle.node_state.specs.declared.happened.Happened.{Happened}
use Rattle.node_state.specs.declared.happened.Happened.TheVariants as happened
use Rattle.node_state.specs.declared.state.Core.{Core}
use Rattle.node_state.specs.State.{row_of, list_of, state_of, len_of, with_row, recorded, recorded_all, with_sessions}
use Rattle.node_state.specs.HandOn.{heard}
use Rattle.node_state.specs.Leading.{put}
use Rattle.row_laws.specs.hearing.Changes.{Same, handing}
use Rattle.row_laws.proofs.hearing.Attending.{pushed, pushed_reverse, heard_at}

module _ (n : ℕ) (s c : Core) (h : List ℕ) (e : Entry) (bs : List (Option Filled)) (same : Same (put s h e) c) (me : s.views.me ≡ n) where
  abbrev after : GroupState
  after = state_of (put s h e) h

  abbrev t : Core
  t = handing c h (len_of s h) (state_of s h) after e bs

  -- what is said
  abbrev pub handing_now : List Happened
  handing_now =
      pushed (flat_map (heard_at s.views.view h (len_of s h) e after) (casts_out s.sessions h (state_of s h) after e bs)) (happened.Put n s.views.view h (len_of s h) e ∷ reverse s.records)

  pub handing_said : reverse t.records ≡ handing_now
  unfolding put recorded recorded_all with_sessions heard with_row
  handing_said =
      ap (λ (z : ViewId × SessionState × List Happened). reverse (z.2 ++ flat_map (heard_at z.0 h (len_of s h) e after) (casts_out z.1 h (state_of s h) after e bs))) (λ i. (same.view i, same.sessions i, same.records i)) ∙ pushed_reverse rs (put s h e).records ∙ ap (pushed rs) (reverse-append s.records (happened.Put s.views.me s.views.view h (len_of s h) e ∷ [])) ∙ ap (λ m. pushed rs (happened.Put m s.views.view h (len_of s h) e ∷ reverse s.records)) me
    where
      rs : List Happened
      rs = flat_map (heard_at s.views.view h (len_of s h) e after) (casts_out s.sessions h (state_of s h) after e bs)

  -- P: of the view, the sessions, what was said, and the lists
  pub hands_keep : (P : ViewId → SessionState → List Happened → (List ℕ → ℕ) → (List ℕ → GroupState) → Type 0) → P s.views.view (handed_on s.sessions h (state_of s h) after e bs) handing_now (len_of (put s h e)) (state_of (put s h e)) → P t.views.view t.sessions (reverse t.records) (len_of t) (state_of t)
  unfolding put recorded recorded_all with_sessions heard with_row len_of state_of list_of row_of
  hands_keep P k =
      subst (λ (z : ViewId × SessionState × List Happened × (List ℕ → ℕ) × (List ℕ → GroupState)). P z.0 (handed_on z.1 h (state_of s h) after e bs) z.2 z.3 z.4) (λ i. (sym same.view i, sym same.sessions i, sym handing_said i, (λ g. sym (same.lens g) i), (λ g. sym (same.states g) i))) k
