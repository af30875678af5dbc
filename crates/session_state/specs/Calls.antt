-- The calls of clients: the checks in their order, and what a taken call makes of the state.
use Rattle.std.specs.Prelude.{◌≡◌, ℕ, Bool, true, false, not, ◌==◌, ◌&&◌, ◌||◌, ◌+◌, ◌++◌, List, [], ◌∷◌, length, filter, find, Option, Some, None, Result, Ok, Err, nat_le, nat_lt, if◌then◌else◌, remove}
use Rattle.std.specs.List.{list_any}
use Rattle.std.specs.Str.{bytes_eq}
use Rattle.rsct_packet.specs.declared.ids.ProviderId.{ProviderId}
use Rattle.rsct_packet.specs.Ids.{last_u32}
use Rattle.rsct_packet.specs.Text.{is_name_of}
use Rattle.rsct_packet.specs.Providers.{differ, same_provider}
use Rattle.group_attr.specs.declared.attrs.Attrs.{Attrs}
use Rattle.group_attr.specs.declared.attrs.AttrFault.{AttrFault}
use Rattle.group_attr.specs.declared.attrs.Phases.{Phases}
use Rattle.group_attr.specs.declared.attrs.Phases.TheVariants.{One}
use Rattle.group_attr.specs.Attrs.{first_fault, host_membership}
use Rattle.proposal_core.specs.declared.entry.Vote.{Vote}
use Rattle.proposal_core.specs.declared.proposal.Proposal.{Proposal}
use Rattle.proposal_core.specs.declared.proposal.Proposal.TheVariants.{Join, Leave, Expel, State, Message, Attributes}
use Rattle.client_callbacks.specs.declared.ballot.Filled.{Filled}
use Rattle.client_callbacks.specs.Ballots.{BallotView, is_within, value_limit, message_limit}
use Rattle.subscribe_core.specs.declared.subs.ClientToken.{ClientToken}
use Rattle.subscribe_core.specs.declared.subs.SubToken.{SubToken}
use Rattle.subscribe_core.specs.Subs.{is_unknown, is_subscribed, subs_add, subs_remove, subs_remove_client, has_token, is_of_client}
use Rattle.session_state.specs.declared.state.MemberToken.{MemberToken}
use Rattle.session_state.specs.declared.state.OpenPhase.{OpenPhase}
use Rattle.session_state.specs.declared.state.Provider.{Provider}
use Rattle.session_state.specs.declared.state.Request.{Request}
use Rattle.session_state.specs.declared.state.SessionState.{SessionState}
use Rattle.session_state.specs.declared.fault.Field.TheVariants as field
use Rattle.session_state.specs.declared.fault.GsFault.{GsFault}
use Rattle.session_state.specs.declared.fault.GsFault.TheVariants as fault
use Rattle.session_state.specs.State.{is_session, is_named, is_member_of, is_client_of, is_in_group, is_kept_for, outstanding, client_place}

abbrev pub max_client_name : ℕ
max_client_name = 16

abbrev pub max_group_name : ℕ
max_group_name = 32

abbrev pub max_sessions : ℕ
max_sessions = 64

abbrev pub max_targets : ℕ
max_targets = 64

-- the first of two checks that refuses
abbrev pub or_fault : Option GsFault → Option GsFault → Option GsFault
or_fault None b = b
or_fault (Some f) b = Some f

abbrev pub fault_if : Bool → GsFault → Option GsFault
fault_if test f = if test then Some f else None

-- a call is refused, or changes the state
abbrev pub unless_fault : Option GsFault → SessionState → Result SessionState GsFault
unless_fault None s = Ok s
unless_fault (Some f) s = Err f

-- the answer is that of the definition, or that memory has run out; what is refused changes nothing
abbrev pub Answers : {X S : Type 0} → Result X GsFault → S → S → Result S GsFault → Type 0
Answers (Ok x) old new r = r ≡ Ok new
Answers (Err f) old new r = (new ≡ old) × (¬ (f ≡ fault.NoMemory) → r ≡ Err f)

-- a call that takes no memory
abbrev pub AnswersAlways : {X S : Type 0} → Result X GsFault → S → S → Result S GsFault → Type 0
AnswersAlways (Ok x) old new r = r ≡ Ok new
AnswersAlways (Err f) old new r = (new ≡ old) × (r ≡ Err f)

-- the sessions and the level are as before
abbrev pub SameSessions : SessionState → SessionState → Type 0
SameSessions old new = (new.sessions ≡ old.sessions) × (new.level ≡ old.level)

-- checks

abbrev pub is_empty : {A : Type 0} → List A → Bool
is_empty xs = length xs == 0

unfoldable pub no_session_fault : SessionState → Option GsFault
no_session_fault s = fault_if (is_empty s.sessions) fault.NoInit

unfoldable pub client_fault : SessionState → ClientToken → Option GsFault
client_fault s t = or_fault (no_session_fault s) (fault_if (not (list_any (is_session t) s.sessions)) fault.BadClientToken)

unfoldable pub name_fault : ℕ → List ℕ → Option GsFault
name_fault most name = or_fault (fault_if (nat_lt most (length name)) fault.NameTooLong) (fault_if (not (is_name_of name)) (fault.BadParameter field.Name))

unfoldable pub hosts_fault : List ℕ → Option GsFault
hosts_fault g = fault_if (bytes_eq g host_membership) (fault.BadParameter field.Name)

unfoldable pub value_fault : SessionState → Option (List ℕ) → Option GsFault
value_fault s value = fault_if (not (is_within (value_limit s.level) value)) (fault.BadParameter field.Value)

unfoldable pub message_fault : List ℕ → Option GsFault
message_fault bytes = fault_if (nat_lt message_limit (length bytes)) (fault.BadParameter field.Message)

unfoldable pub targets_fault : List ProviderId → Option GsFault
targets_fault out = fault_if (is_empty out || nat_lt max_targets (length out) || not (differ out)) (fault.BadParameter field.Targets)

abbrev pub attributes_fault : Option AttrFault → Option GsFault
attributes_fault None = None
attributes_fault (Some f) = Some (fault.BadGroupAttributes f)

abbrev pub collide_with : Option Request → Option GsFault
collide_with None = None
collide_with (Some q) = Some (fault.Collide q.request)

unfoldable pub collide_fault : SessionState → ProviderId → Option GsFault
collide_fault s p = collide_with (outstanding s p)

unfoldable pub spent_fault : ℕ → Option GsFault
spent_fault last = fault_if (last == last_u32) fault.Spent

-- init

unfoldable pub init_fault : SessionState → List ℕ → Option GsFault
init_fault s name =
    or_fault (name_fault max_client_name name)
    (or_fault (fault_if (list_any (is_named name) s.sessions) fault.Exists)
    (or_fault (fault_if (nat_le max_sessions (length s.sessions)) (fault.SessionsFull 64))
    (spent_fault s.last_client)))

unfoldable pub add_session : SessionState → List ℕ → SessionState
add_session s name = record s { last_client = s.last_client + 1; sessions = s.sessions ++ record { token = record { number = s.last_client + 1 }; name = name } ∷ [] }

-- a new session with this name, whose token has the next number
unfoldable pub inited : SessionState → List ℕ → Result SessionState GsFault
inited s name = unless_fault (init_fault s name) (add_session s name)

-- join

unfoldable pub join_fault : SessionState → ClientToken → List ℕ → Attrs → Option GsFault
join_fault s t g attrs =
    or_fault (client_fault s t)
    (or_fault (name_fault max_group_name g)
    (or_fault (hosts_fault g)
    (or_fault (attributes_fault (first_fault attrs g))
    (or_fault (fault_if (list_any (is_in_group t g) s.providers) fault.Exists)
    (spent_fault s.last_request)))))

abbrev pub new_provider : SessionState → ℕ → ProviderId
new_provider s instance = record { node = s.me; inc = s.inc; instance = instance; join = s.last_request + 1 }

unfoldable pub join_asked : SessionState → ClientToken → List ℕ → ℕ → Attrs → SessionState
join_asked s t g instance attrs =
    let p : ProviderId = new_provider s instance in
    record s {
      last_request = s.last_request + 1;
      providers = s.providers ++ record { provider = p; client = t; group = g; takes_part = false; opened = None } ∷ [];
      requests = s.requests ++ record { provider = p; request = s.last_request + 1; group = g; phases = One; proposal = Join (p ∷ []) attrs None } ∷ [];
    }

-- a new provider of the client, whose join is outstanding under the next request number
unfoldable pub joined : SessionState → ClientToken → List ℕ → ℕ → Attrs → Result SessionState GsFault
joined s t g instance attrs = unless_fault (join_fault s t g attrs) (join_asked s t g instance attrs)

-- calls of a provider

-- with a request of the provider under the next number
unfoldable pub asked : SessionState → Provider → Phases → (ℕ → Proposal) → SessionState
asked s x phases make =
    record s {
      last_request = s.last_request + 1;
      requests = s.requests ++ record { provider = x.provider; request = s.last_request + 1; group = x.group; phases = phases; proposal = make (s.last_request + 1) } ∷ [];
    }

unfoldable pub ask_fault : SessionState → Provider → Option GsFault → Option GsFault
ask_fault s x parameter = or_fault parameter (or_fault (collide_fault s x.provider) (spent_fault s.last_request))

abbrev pub member_asks : SessionState → Option Provider → Phases → Option GsFault → (Provider → ℕ → Proposal) → Result SessionState GsFault
member_asks s None phases parameter make = Err fault.BadMemberToken
member_asks s (Some x) phases parameter make = unless_fault (ask_fault s x parameter) (asked s x phases (make x))

abbrev pub if_session : Bool → Result SessionState GsFault → Result SessionState GsFault
if_session none r = if none then Err fault.NoInit else r

-- a request of the provider of a token, where its parameter has no fault
unfoldable pub request_made : SessionState → MemberToken → Phases → Option GsFault → (Provider → ℕ → Proposal) → Result SessionState GsFault
request_made s m phases parameter make = if_session (is_empty s.sessions) (member_asks s (find (is_member_of m) s.providers) phases parameter make)

unfoldable pub left : SessionState → MemberToken → Phases → Result SessionState GsFault
left s m phases = request_made s m phases None (λ x r. Leave x.provider r)

unfoldable pub expelled : SessionState → MemberToken → Phases → List ProviderId → Result SessionState GsFault
expelled s m phases out = request_made s m phases (targets_fault out) (λ x r. Expel x.provider r out)

unfoldable pub state_changed : SessionState → MemberToken → Phases → List ℕ → Result SessionState GsFault
state_changed s m phases value = request_made s m phases (value_fault s (Some value)) (λ x r. State x.provider r value)

unfoldable pub message_sent : SessionState → MemberToken → Phases → List ℕ → Result SessionState GsFault
message_sent s m phases bytes = request_made s m phases (message_fault bytes) (λ x r. Message x.provider r bytes)

abbrev pub member_changes : SessionState → Option Provider → Phases → Attrs → Result SessionState GsFault
member_changes s None phases attrs = Err fault.BadMemberToken
member_changes s (Some x) phases attrs =
    unless_fault (ask_fault s x (attributes_fault (first_fault attrs x.group))) (asked s x phases (λ r. Attributes x.provider r attrs))

-- the attributes are checked for the provider's own group
unfoldable pub attributes_changed : SessionState → MemberToken → Phases → Attrs → Result SessionState GsFault
attributes_changed s m phases attrs = if_session (is_empty s.sessions) (member_changes s (find (is_member_of m) s.providers) phases attrs)

-- vote

abbrev pub ballot_of : ℕ → Filled → BallotView
ballot_of level f = record { votes = true; level = level; filled = Some f }

abbrev pub keeps : SessionState → Provider → OpenPhase → Filled → SessionState
keeps s x o f = record s { kept = s.kept ++ record { provider = x.provider; group = x.group; proto = o.proto; phase = o.phase; ballot = ballot_of s.level f } ∷ [] }

abbrev pub vote_in : SessionState → Provider → Vote → Option (List ℕ) → Option OpenPhase → Result SessionState GsFault
vote_in s x v value None = Err fault.VoteNotExpected
vote_in s x v value (Some o) =
    unless_fault (fault_if (list_any (is_kept_for x.provider o.proto o.phase) s.kept) fault.VoteNotExpected) (keeps s x o (record { vote = v; value = value; message = None }))

abbrev pub member_votes : SessionState → Option Provider → Vote → Option (List ℕ) → Result SessionState GsFault
member_votes s None v value = Err fault.BadMemberToken
member_votes s (Some x) v value = if is_within (value_limit s.level) value then vote_in s x v value x.opened else Err (fault.BadParameter field.Value)

-- a ballot of the provider, kept last
unfoldable pub voted : SessionState → MemberToken → Vote → Option (List ℕ) → Result SessionState GsFault
voted s m v value = if_session (is_empty s.sessions) (member_votes s (find (is_member_of m) s.providers) v value)

-- subscriptions

unfoldable pub subscribe_fault : SessionState → ClientToken → List ℕ → Bool → Option GsFault
subscribe_fault s t g known =
    or_fault (client_fault s t)
    (or_fault (name_fault max_group_name g)
    (or_fault (fault_if (is_subscribed t g s.subs) fault.Exists)
    (or_fault (fault_if (is_unknown g known) fault.UnknownGroup)
    (spent_fault s.subs.last))))

-- known: the node holds a list of the group
unfoldable pub subscribe_taken : SessionState → ClientToken → List ℕ → Bool → Result SessionState GsFault
subscribe_taken s t g known = unless_fault (subscribe_fault s t g known) (record s { subs = subs_add t g s.subs })

unfoldable pub unsubscribe_fault : SessionState → ClientToken → SubToken → Option GsFault
unsubscribe_fault s t sub =
    or_fault (client_fault s t) (fault_if (not (list_any (λ x. has_token sub x && is_of_client t x) s.subs.live)) (fault.BadParameter field.Subscription))

unfoldable pub unsubscribe_taken : SessionState → ClientToken → SubToken → Result SessionState GsFault
unsubscribe_taken s t sub = unless_fault (unsubscribe_fault s t sub) (record s { subs = subs_remove sub s.subs })

-- goodbye

abbrev pub removed_at : {A : Type 0} → Option ℕ → List A → List A
removed_at None xs = xs
removed_at (Some i) xs = remove xs i

-- whether a provider is of the client
abbrev pub is_owned : List Provider → ClientToken → ProviderId → Bool
is_owned xs t p = list_any (λ x. is_client_of t x && same_provider x.provider p) xs

-- without the session, its subscriptions, and its providers with their requests and kept ballots
unfoldable pub end_session : SessionState → ClientToken → SessionState
end_session s t =
    record s {
      sessions = removed_at (client_place s t) s.sessions;
      providers = filter (λ x. not (is_client_of t x)) s.providers;
      requests = filter (λ q. not (is_owned s.providers t q.provider)) s.requests;
      subs = subs_remove_client t s.subs;
      kept = filter (λ k. not (is_owned s.providers t k.provider)) s.kept;
    }

unfoldable pub goodbye_taken : SessionState → ClientToken → Result SessionState GsFault
goodbye_taken s t = unless_fault (client_fault s t) (end_session s t)

-- opens each word of this file, for a computation
unfoldable pub calls_opens : Unit {0}
unfolding no_session_fault client_fault name_fault hosts_fault value_fault message_fault targets_fault collide_fault spent_fault init_fault add_session inited join_fault join_asked joined asked ask_fault request_made left expelled state_changed message_sent attributes_changed voted subscribe_fault subscribe_taken unsubscribe_fault unsubscribe_taken end_session goodbye_taken
calls_opens = tt
