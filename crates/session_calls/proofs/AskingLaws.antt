-- Each call that asks for something is checked, and asked, in one way.
use Rattle.std.proofs.Common.{◌≡◌, ℕ, Option, Some, None, refl, ap}
use Rattle.std.specs.Prelude.{find}
use Rattle.group_attr.specs.declared.attrs.Attrs.{Attrs}
use Rattle.group_attr.specs.declared.attrs.Phases.{Phases}
use Rattle.proposal_core.specs.declared.proposal.Proposal.{Proposal}
use Rattle.session_state.specs.declared.fault.GsFault.{GsFault}
use Rattle.session_state.specs.declared.state.MemberToken.{MemberToken}
use Rattle.session_state.specs.declared.state.Provider.{Provider}
use Rattle.session_state.specs.declared.state.SessionState.{SessionState}
use Rattle.session_state.specs.State.{is_member_of}
use Rattle.session_state.specs.Calls.{is_empty, if_session, member_asks, member_changes, request_made, left, expelled, state_changed, message_sent, attributes_changed}
use Rattle.session_calls.specs.declared.asking.Asked.{Asked}
use Rattle.session_calls.specs.declared.asking.Asked.TheVariants as asks
use Rattle.session_calls.specs.Asking.{asked_for, asked_by, parameter_fault, proposal_of}

-- what has one fault in each group
asks_as : (s : SessionState) (o : Option Provider) (phases : Phases) (what : Asked) (parameter : Option GsFault) (make : Provider → ℕ → Proposal) → ((x : Provider) → parameter_fault s x.group what ≡ parameter) → ((x : Provider) → proposal_of what x.provider ≡ make x)
    → member_asks s o phases parameter make ≡ asked_by s o phases what
asks_as s None phases what parameter make f e = refl
asks_as s (Some x) phases what parameter make f e = rw (f x, e x) refl

changes_as : (s : SessionState) (o : Option Provider) (phases : Phases) (attrs : Attrs) → member_changes s o phases attrs ≡ asked_by s o phases (asks.Attributes attrs)
changes_as s None phases attrs = refl
changes_as s (Some x) phases attrs = refl

pub asked_as : (s : SessionState) (m : MemberToken) (phases : Phases) (what : Asked) → asked_for s m phases what ≡ if_session (is_empty s.sessions) (asked_by s (find (is_member_of m) s.providers) phases what)
unfolding request_made left expelled state_changed message_sent attributes_changed
asked_as s m phases asks.Leave = ap (if_session (is_empty s.sessions)) (asks_as s _ phases asks.Leave _ _ (λ x. refl) (λ x. refl))
asked_as s m phases (asks.Expel out) = ap (if_session (is_empty s.sessions)) (asks_as s _ phases (asks.Expel out) _ _ (λ x. refl) (λ x. refl))
asked_as s m phases (asks.State value) = ap (if_session (is_empty s.sessions)) (asks_as s _ phases (asks.State value) _ _ (λ x. refl) (λ x. refl))
asked_as s m phases (asks.Message bytes) = ap (if_session (is_empty s.sessions)) (asks_as s _ phases (asks.Message bytes) _ _ (λ x. refl) (λ x. refl))
asked_as s m phases (asks.Attributes attrs) = ap (if_session (is_empty s.sessions)) (changes_as s _ phases attrs)
