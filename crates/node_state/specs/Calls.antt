-- The calls of clients, at their node.
use Rattle.std.specs.Prelude.{ℕ, Bool, true, false, List, filter, fold, Option, Some, None, Result, Ok, Err}
use Rattle.std.specs.List.{last_or}
use Rattle.subscribe_core.specs.declared.subs.SubToken.{SubToken}
use Rattle.client_callbacks.specs.declared.ballot.Filled.{Filled}
use Rattle.session_state.specs.declared.fault.GsFault.{GsFault}
use Rattle.session_state.specs.declared.state.MemberToken.{MemberToken}
use Rattle.session_state.specs.declared.state.Provider.{Provider}
use Rattle.session_state.specs.declared.state.Request.{Request}
use Rattle.session_state.specs.declared.state.KeptBallot.{KeptBallot}
use Rattle.session_state.specs.declared.state.SessionState.{SessionState}
use Rattle.session_state.specs.State.{is_client_of, client_token, member_token, sub_token}
use Rattle.session_state.specs.Calls.{inited, joined, left, expelled, state_changed, message_sent, attributes_changed, voted, subscribe_taken, unsubscribe_taken, goodbye_taken}
use Rattle.node_state.specs.declared.call.CallLine.{CallLine}
use Rattle.node_state.specs.declared.call.CallLine.TheVariants as call
use Rattle.node_state.specs.declared.happened.Happened.TheVariants as happened
use Rattle.node_state.specs.declared.packet.Body.TheVariants as body
use Rattle.node_state.specs.declared.state.Core.{Core}
use Rattle.node_state.specs.State.{holds, frozen, leader_of, recorded, with_sessions}
use Rattle.node_state.specs.Sending.{send_if_known, send_request, send_kept}

-- ---- who calls: the live client, provider or subscription of the names, whose token is 0 where there is none

unfoldable pub caller : SessionState → List ℕ → List ℕ → MemberToken
caller s client g = member_token s (client_token s client) g

unfoldable pub subscriber : SessionState → List ℕ → List ℕ → SubToken
subscriber s client g = sub_token s (client_token s client) g

-- the name of the client
unfoldable pub caller_of : CallLine → List ℕ
caller_of (call.Init node name votes) = name
caller_of (call.Join client g instance attrs) = client
caller_of (call.Leave client g phases) = client
caller_of (call.Expel client g phases out) = client
caller_of (call.ChangeState client g phases value) = client
caller_of (call.SendMessage client g phases bytes) = client
caller_of (call.ChangeAttributes client g phases attrs) = client
caller_of (call.Vote client g v value) = client
caller_of (call.Subscribe client g) = client
caller_of (call.Unsubscribe client g) = client
caller_of (call.Goodbye client) = client

-- ---- what a call leaves

unfoldable pub refuse_call : Core → List ℕ → GsFault → Core
refuse_call s client fault = recorded s (happened.Refused s.views.me client fault)

-- a call that changes nothing but the sessions
unfoldable pub changed : Core → List ℕ → Result SessionState GsFault → Core
changed s client (Ok t) = with_sessions s t
changed s client (Err fault) = refuse_call s client fault

unfoldable pub ask_last : Core → Option Request → Core
ask_last s None = s
ask_last s (Some q) = send_request (recorded s (happened.Asked q.provider q.request q.group q.proposal)) q

-- a call that proposes: its request is outstanding, and is sent
unfoldable pub proposed : Core → List ℕ → Result SessionState GsFault → Core
proposed s client (Ok t) = ask_last (with_sessions s t) (last_or None t.requests)
proposed s client (Err fault) = refuse_call s client fault

unfoldable pub record_ballot : Core → KeptBallot → Option Filled → Core
record_ballot s k None = s
record_ballot s k (Some b) = recorded s (happened.Cast k.provider k.proto k.phase b.vote b.value b.message)

unfoldable pub ballot_sent_if : Core → KeptBallot → Bool → Core
ballot_sent_if s k true = s
ballot_sent_if s k false = send_kept s k

unfoldable pub cast_last : Core → Option KeptBallot → Core
cast_last s None = s
cast_last s (Some k) = ballot_sent_if (record_ballot s k k.ballot.filled) k (frozen s)

-- a vote: its ballot is kept, and is sent
unfoldable pub give_ballot : Core → List ℕ → Result SessionState GsFault → Core
give_ballot s client (Ok t) = cast_last (with_sessions s t) (last_or None t.kept)
give_ballot s client (Err fault) = refuse_call s client fault

unfoldable pub send_gone : Core → Provider → Core
send_gone s x = send_if_known s (leader_of s x.group) (body.Gone s.views.view x.group x.provider)

unfoldable pub send_all_gone : Core → List Provider → Core
send_all_gone s ended = elim (frozen s) [ true ↦ s | false ↦ fold send_gone s ended ]

-- a goodbye: GONE for each provider that is ended, in the order of their joins
unfoldable pub goodbye_said : Core → List ℕ → List Provider → Result SessionState GsFault → Core
goodbye_said s client ended (Ok t) = send_all_gone (with_sessions s t) ended
goodbye_said s client ended (Err fault) = refuse_call s client fault

-- a call
unfoldable pub take_call : Core → CallLine → Core
take_call s (call.Init node name votes) = changed s name (inited s.sessions name)
take_call s (call.Join client g instance attrs) = proposed s client (joined s.sessions (client_token s.sessions client) g instance attrs)
take_call s (call.Leave client g phases) = proposed s client (left s.sessions (caller s.sessions client g) phases)
take_call s (call.Expel client g phases out) = proposed s client (expelled s.sessions (caller s.sessions client g) phases out)
take_call s (call.ChangeState client g phases value) = proposed s client (state_changed s.sessions (caller s.sessions client g) phases value)
take_call s (call.SendMessage client g phases bytes) = proposed s client (message_sent s.sessions (caller s.sessions client g) phases bytes)
take_call s (call.ChangeAttributes client g phases attrs) = proposed s client (attributes_changed s.sessions (caller s.sessions client g) phases attrs)
take_call s (call.Vote client g v value) = give_ballot s client (voted s.sessions (caller s.sessions client g) v value)
take_call s (call.Subscribe client g) = changed s client (subscribe_taken s.sessions (client_token s.sessions client) g (holds s g))
take_call s (call.Unsubscribe client g) = changed s client (unsubscribe_taken s.sessions (client_token s.sessions client) (subscriber s.sessions client g))
take_call s (call.Goodbye client) =
    goodbye_said s client (filter (is_client_of (client_token s.sessions client)) s.sessions.providers) (goodbye_taken s.sessions (client_token s.sessions client))

-- opens each word of this file, for a computation
unfoldable pub node_calls_opens : Unit {0}
unfolding caller subscriber caller_of refuse_call changed ask_last proposed record_ballot ballot_sent_if cast_last give_ballot send_gone send_all_gone goodbye_said take_call
node_calls_opens = tt
