-- Neither calls nor what clients are told changes the level of the sessions.
use Rattle.std.proofs.Common.{◌≡◌, ℕ, List, Option, Some, None, Bool, true, false, refl, [], ◌∷◌}
use Rattle.std.specs.Prelude.{filter, find, Result, Ok, Err, if◌then◌else◌, ◌||◌, not}
use Rattle.std.specs.List.{list_any}
use Rattle.rsct_packet.specs.declared.ids.ProviderId.{ProviderId}
use Rattle.rsct_packet.specs.Providers.{among}
use Rattle.group_attr.specs.declared.attrs.Attrs.{Attrs}
use Rattle.group_attr.specs.declared.attrs.Phases.{Phases}
use Rattle.group_attr.specs.Attrs.{first_fault}
use Rattle.proposal_core.specs.declared.entry.Vote.{Vote}
use Rattle.proposal_core.specs.declared.proposal.Proposal.{Proposal}
use Rattle.proposal_core.specs.declared.proposal.Proposal.TheVariants.{Leave, Expel, State, Message, Attributes}
use Rattle.subscribe_core.specs.declared.subs.ClientToken.{ClientToken}
use Rattle.subscribe_core.specs.declared.subs.SubToken.{SubToken}
use Rattle.subscribe_core.specs.Subs.{subs_add, subs_remove}
use Rattle.client_callbacks.specs.Ballots.{is_within, value_limit}
use Rattle.client_callbacks.specs.declared.told.Why.{Why}
use Rattle.session_state.specs.declared.fault.Field.TheVariants as field
use Rattle.session_state.specs.declared.fault.GsFault.{GsFault}
use Rattle.session_state.specs.declared.fault.GsFault.TheVariants as fault
use Rattle.session_state.specs.declared.state.MemberToken.{MemberToken}
use Rattle.session_state.specs.declared.state.OpenPhase.{OpenPhase}
use Rattle.session_state.specs.declared.state.Provider.{Provider}
use Rattle.session_state.specs.declared.state.Request.{Request}
use Rattle.session_state.specs.declared.state.SessionState.{SessionState}
use Rattle.session_state.specs.State.{is_member_of, is_kept_for, outstanding, without_providers}
use Rattle.session_state.specs.Calls.{unless_fault, fault_if, attributes_fault, init_fault, add_session, inited, join_fault, join_asked, joined, asked, ask_fault, member_asks, if_session, is_empty, request_made, value_fault, message_fault, targets_fault, left, expelled, state_changed, message_sent, member_changes, attributes_changed, keeps, vote_in, member_votes, voted, subscribe_fault, subscribe_taken, unsubscribe_fault, unsubscribe_taken, client_fault, end_session, goodbye_taken}
use Rattle.session_state.specs.HandOn.{takes_telling, told_of, take_telling, is_join_request, is_dissolved}

abbrev pub SameLevel : SessionState → Result SessionState GsFault → Type 0
SameLevel s (Ok t) = (t.level ≡ s.level)
SameLevel s (Err f) = Unit {0}

unless_level : (s t : SessionState) (o : Option GsFault) → (t.level ≡ s.level) → SameLevel s (unless_fault o t)
unless_level s t None k = k
unless_level s t (Some f) k = tt

if_level : (s : SessionState) (b : Bool) (r : Result SessionState GsFault) → SameLevel s r → SameLevel s (if_session b r)
if_level s true r k = tt
if_level s false r k = k

pub inited_level : (s : SessionState) (name : List ℕ) → SameLevel s (inited s name)
unfolding inited add_session
inited_level s name = unless_level s (add_session s name) (init_fault s name) refl

pub joined_level : (s : SessionState) (t : ClientToken) (g : List ℕ) (instance : ℕ) (attrs : Attrs) → SameLevel s (joined s t g instance attrs)
unfolding joined join_asked
joined_level s t g instance attrs = unless_level s (join_asked s t g instance attrs) (join_fault s t g attrs) refl

made_level : (s : SessionState) (m : MemberToken) (phases : Phases) (parameter : Option GsFault) (make : Provider → ℕ → Proposal) → SameLevel s (request_made s m phases parameter make)
unfolding request_made asked
made_level s m phases parameter make =
    if_level s (is_empty s.sessions) (member_asks s (find (is_member_of m) s.providers) phases parameter make) (by (find (is_member_of m) s.providers))
  where
    by : (o : Option Provider) → SameLevel s (member_asks s o phases parameter make)
    by None = tt
    by (Some x) = unless_level s (asked s x phases (make x)) (ask_fault s x parameter) refl

pub left_level : (s : SessionState) (m : MemberToken) (phases : Phases) → SameLevel s (left s m phases)
unfolding left
left_level s m phases = made_level s m phases None (λ x r. Leave x.provider r)

pub expelled_level : (s : SessionState) (m : MemberToken) (phases : Phases) (out : List ProviderId) → SameLevel s (expelled s m phases out)
unfolding expelled
expelled_level s m phases out = made_level s m phases (targets_fault out) (λ x r. Expel x.provider r out)

pub state_level : (s : SessionState) (m : MemberToken) (phases : Phases) (value : List ℕ) → SameLevel s (state_changed s m phases value)
unfolding state_changed
state_level s m phases value = made_level s m phases (value_fault s (Some value)) (λ x r. State x.provider r value)

pub message_level : (s : SessionState) (m : MemberToken) (phases : Phases) (bytes : List ℕ) → SameLevel s (message_sent s m phases bytes)
unfolding message_sent
message_level s m phases bytes = made_level s m phases (message_fault bytes) (λ x r. Message x.provider r bytes)

pub attributes_level : (s : SessionState) (m : MemberToken) (phases : Phases) (attrs : Attrs) → SameLevel s (attributes_changed s m phases attrs)
unfolding attributes_changed asked
attributes_level s m phases attrs =
    if_level s (is_empty s.sessions) (member_changes s (find (is_member_of m) s.providers) phases attrs) (by (find (is_member_of m) s.providers))
  where
    by : (o : Option Provider) → SameLevel s (member_changes s o phases attrs)
    by None = tt
    by (Some x) = unless_level s (asked s x phases (λ r. Attributes x.provider r attrs)) (ask_fault s x (attributes_fault (first_fault attrs x.group))) refl

pub subscribe_level : (s : SessionState) (t : ClientToken) (g : List ℕ) (known : Bool) → SameLevel s (subscribe_taken s t g known)
unfolding subscribe_taken
subscribe_level s t g known = unless_level s (record s { subs = subs_add t g s.subs }) (subscribe_fault s t g known) refl

pub unsubscribe_level : (s : SessionState) (t : ClientToken) (sub : SubToken) → SameLevel s (unsubscribe_taken s t sub)
unfolding unsubscribe_taken
unsubscribe_level s t sub = unless_level s (record s { subs = subs_remove sub s.subs }) (unsubscribe_fault s t sub) refl

pub goodbye_level : (s : SessionState) (t : ClientToken) → SameLevel s (goodbye_taken s t)
unfolding goodbye_taken end_session
goodbye_level s t = unless_level s (end_session s t) (client_fault s t) refl

pub voted_level : (s : SessionState) (m : MemberToken) (v : Vote) (value : Option (List ℕ)) → SameLevel s (voted s m v value)
unfolding voted
voted_level s m v value = if_level s (is_empty s.sessions) (member_votes s (find (is_member_of m) s.providers) v value) (provider (find (is_member_of m) s.providers))
  where
    opened : (x : Provider) (o : Option OpenPhase) → SameLevel s (vote_in s x v value o)
    opened x None = tt
    opened x (Some o) = unless_level s (keeps s x o (record { vote = v; value = value; message = None })) (fault_if (list_any (is_kept_for x.provider o.proto o.phase) s.kept) fault.VoteNotExpected) refl

    within : (x : Provider) (b : Bool) → SameLevel s (if b then vote_in s x v value x.opened else Err (fault.BadParameter field.Value))
    within x true = opened x x.opened
    within x false = tt

    provider : (o : Option Provider) → SameLevel s (member_votes s o v value)
    provider None = tt
    provider (Some x) = within x (is_within (value_limit s.level) value)

pub telling_level : (s : SessionState) (p : ProviderId) (r : ℕ) (y : Why) → (take_telling s p r y).level ≡ s.level
unfolding take_telling told_of without_providers
telling_level s p r y = by (takes_telling s p r y) (is_join_request (outstanding s p)) (is_dissolved y)
  where
    by : (a b c : Bool) → (if a then (if b || c then without_providers s (p ∷ []) else record s { requests = filter (λ (q : Request). not (among (p ∷ []) q.provider)) s.requests }) else s).level ≡ s.level
    by false b c = refl
    by true true c = refl
    by true false true = refl
    by true false false = refl
