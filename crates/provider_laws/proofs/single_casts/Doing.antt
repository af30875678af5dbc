-- What a node does leaves its providers casting when a ballot is due, change by change.
use Rattle.std.proofs.Common.{ℕ, List, [], ◌∷◌, sym, subst}
use Rattle.std.specs.Prelude.{reverse}
use Rattle.std.proofs.lemmas.List.{reverse-append}
use Rattle.session_state.specs.declared.state.SessionState.{SessionState}
use Rattle.session_state.specs.Calls.{keeps}
use Rattle.node_state.specs.declared.happened.Happened.{Happened}
use Rattle.node_state.specs.declared.happened.Happened.TheVariants as happened
use Rattle.node_state.specs.declared.state.Core.{Core}
use Rattle.node_state.specs.State.{state_of, len_of, recorded, with_sessions}
use Rattle.node_state.specs.Leading.{put}
use Rattle.run_safety.specs.Past.{History}
use Rattle.row_laws.specs.hearing.Changes.{Does, Stays, Then, Records, Hands, Loses, Joins, Votes, Enters}
use Rattle.row_laws.proofs.hearing.Doing.{Hearing, hearing_does}
use Rattle.provider_laws.proofs.single_casts.Asking.{Silent, inner_silent}
use Rattle.provider_laws.proofs.single_casts.Casting.{Casting, casting_silent, casting_fewer, casting_joined, casting_votes, casting_handed}
use Rattle.provider_laws.proofs.attending.Hands.{hands_keep}
use Rattle.provider_laws.proofs.single_casts.Entering.{enters_keep}

module _ (n inc : ℕ) (before : History) where
  abbrev pub Held : Core → Type 0
  Held c = Casting n before c.sessions (reverse c.records)

  held_record : (c : Core) (r : Happened) → Silent r → Held c → Held (recorded c r)
  unfolding recorded
  held_record c r a k =
      subst (Casting n before c.sessions) (sym (reverse-append c.records (r ∷ []))) (casting_silent n before c.sessions (reverse c.records) r a k)

  -- ---- every change

  pub casting_does : (s t : Core) → Does s t → Hearing n inc before s → Held s → Held t
  unfolding recorded with_sessions
  casting_does _ _ (Stays s t same) at k = subst (λ (z : SessionState × List Happened). Casting n before z.0 (reverse z.1)) (λ i. (sym same.sessions i, sym same.records i)) k
  casting_does _ _ (Then s t u a b) at k = casting_does t u b (hearing_does n inc before s t a at) (casting_does s t a at k)
  casting_does _ _ (Records s r a) at k = held_record s r (inner_silent r a) k
  casting_does _ _ (Hands s c h e bs o same) at k = hands_keep n s c h e bs same at.me (λ v t now lens states. Casting n before t now) (casting_handed n inc before s.views.view s.sessions (reverse s.records) (len_of s) (state_of s) at.at k h (state_of (put s h e) h) e bs)
  casting_does _ _ (Loses s t f) at k = casting_fewer n before s.sessions t (reverse s.records) f k
  casting_does _ _ (Joins s t g instance attrs none) at k = casting_joined n before s.sessions t g instance attrs (reverse s.records) k
  casting_does _ _ (Votes s x o b found opened unkept) at k =
      let own = at.at.own x.provider x found in
      subst (Casting n before (keeps s.sessions x o b)) (sym (reverse-append s.records (happened.Cast x.provider o.proto o.phase b.vote b.value b.message ∷ []))) (casting_votes n before s.sessions x o b (reverse s.records) found opened unkept own.0 own.2 k)
  casting_does _ _ (Enters s i lt none) at k = enters_keep (Casting n before) (casting_silent n before) (casting_fewer n before) s i k
