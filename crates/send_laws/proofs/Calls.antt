-- What a call of a client sends.
use Rattle.std.proofs.Common.{ℕ, ◌+◌, List, length, filter, fold, Some, None, Option, Bool, true, false, Result, Ok, Err, refl, arith}
use Rattle.session_state.specs.declared.fault.GsFault.{GsFault}
use Rattle.session_state.specs.declared.state.Provider.{Provider}
use Rattle.session_state.specs.declared.state.Request.{Request}
use Rattle.session_state.specs.declared.state.KeptBallot.{KeptBallot}
use Rattle.session_state.specs.declared.state.SessionState.{SessionState}
use Rattle.session_state.specs.State.{is_client_of, client_token}
use Rattle.session_state.specs.Calls.{inited, joined, left, expelled, state_changed, message_sent, attributes_changed, voted, subscribe_taken, unsubscribe_taken, goodbye_taken}
use Rattle.client_callbacks.specs.declared.ballot.Filled.{Filled}
use Rattle.std.specs.List.{last_or}
use Rattle.node_state.specs.declared.call.CallLine.{CallLine}
use Rattle.node_state.specs.declared.call.CallLine.TheVariants as call
use Rattle.node_state.specs.declared.happened.Happened.TheVariants as happened
use Rattle.node_state.specs.declared.packet.Body.TheVariants as body
use Rattle.node_state.specs.declared.state.Core.{Core}
use Rattle.node_state.specs.State.{holds, frozen, leader_of, recorded, with_sessions}
use Rattle.node_state.specs.Sending.{send_request, vote_of, send_kept, send_kept_to}
use Rattle.node_state.specs.Calls.{caller, subscriber, refuse_call, changed, ask_last, proposed, record_ballot, ballot_sent_if, cast_last, give_ballot, send_gone, send_all_gone, goodbye_said, take_call}
use Rattle.send_laws.specs.Bound.{Stands}
use Rattle.send_laws.proofs.Counts.{kept_few}
use Rattle.send_laws.proofs.Parts.{Goes, goes_same, goes_more, free_then, fold_each, goes_sent_if, goes_recorded, goes_sessions}
use Rattle.send_laws.proofs.Rules.{nothing_of, goes_request_sent}

-- a ballot, if it is filled
pub goes_kept_sent : (s : Core) (x : KeptBallot) → Stands s → Goes 1 s (send_kept s x)
unfolding send_kept send_kept_to vote_of
goes_kept_sent s x k = by x.ballot.filled
  where
    by : (b : Option Filled) → Goes 1 s (send_kept_to s x (leader_of s x.group) b)
    by None = nothing_of 1 s k
    by (Some b) = goes_sent_if s (leader_of s x.group) (vote_of s x.group x.proto x.phase x.provider b) tt k

goes_call_refused : (c : ℕ) (s : Core) (client : List ℕ) (fault : GsFault) → Stands s → Goes c s (refuse_call s client fault)
unfolding refuse_call
goes_call_refused c s client fault k =
    goes_more 0 c s (recorded s (happened.Refused s.views.me client fault)) (omega arith) (goes_recorded s (happened.Refused s.views.me client fault) refl k)

goes_changed : (c : ℕ) (s : Core) (client : List ℕ) (r : Result SessionState GsFault) → Stands s → Goes c s (changed s client r)
unfolding changed
goes_changed c s client (Ok t) k = goes_more 0 c s (with_sessions s t) (omega arith) (goes_sessions s t k)
goes_changed c s client (Err fault) k = goes_call_refused c s client fault k

goes_last_asked : (s : Core) (o : Option Request) → Stands s → Goes 1 s (ask_last s o)
unfolding ask_last
goes_last_asked s None k = nothing_of 1 s k
goes_last_asked s (Some q) k =
    let t : Core = recorded s (happened.Asked q.provider q.request q.group q.proposal) in
    let a : Goes 0 s t = goes_recorded s (happened.Asked q.provider q.request q.group q.proposal) refl k in
    free_then 1 s t (send_request t q) a (goes_request_sent t q a.stands)

goes_proposed : (s : Core) (client : List ℕ) (r : Result SessionState GsFault) → Stands s → Goes 1 s (proposed s client r)
unfolding proposed
goes_proposed s client (Err fault) k = goes_call_refused 1 s client fault k
goes_proposed s client (Ok t) k =
    let a : Goes 0 s (with_sessions s t) = goes_sessions s t k in
    free_then 1 s (with_sessions s t) (ask_last (with_sessions s t) (last_or None t.requests)) a (goes_last_asked (with_sessions s t) (last_or None t.requests) a.stands)

goes_last_cast : (s : Core) (o : Option KeptBallot) → Stands s → Goes 1 s (cast_last s o)
unfolding cast_last record_ballot ballot_sent_if
goes_last_cast s None k = nothing_of 1 s k
goes_last_cast s (Some x) k = let a : Goes 0 s (record_ballot s x x.ballot.filled) = note x.ballot.filled in free_then 1 s (record_ballot s x x.ballot.filled) (cast_last s (Some x)) a (by (record_ballot s x x.ballot.filled) (frozen s) a.stands)
  where
    note : (b : Option Filled) → Goes 0 s (record_ballot s x b)
    note None = goes_same s k
    note (Some b) = goes_recorded s (happened.Cast x.provider x.proto x.phase b.vote b.value b.message) refl k

    by : (t : Core) (b : Bool) → Stands t → Goes 1 t (ballot_sent_if t x b)
    by t true h = nothing_of 1 t h
    by t false h = goes_kept_sent t x h

goes_ballot : (s : Core) (client : List ℕ) (r : Result SessionState GsFault) → Stands s → Goes 1 s (give_ballot s client r)
unfolding give_ballot
goes_ballot s client (Err fault) k = goes_call_refused 1 s client fault k
goes_ballot s client (Ok t) k =
    let a : Goes 0 s (with_sessions s t) = goes_sessions s t k in
    free_then 1 s (with_sessions s t) (cast_last (with_sessions s t) (last_or None t.kept)) a (goes_last_cast (with_sessions s t) (last_or None t.kept) a.stands)

goes_all_gone : (s : Core) (xs : List Provider) → Stands s → Goes (length xs) s (send_all_gone s xs)
unfolding send_all_gone send_gone
goes_all_gone s xs k = by (frozen s)
  where
    by : (b : Bool) → Goes (length xs) s (elim b [ true ↦ s | false ↦ fold send_gone s xs ])
    by true = nothing_of (length xs) s k
    by false = fold_each send_gone (λ t x h. goes_sent_if t (leader_of t x.group) (body.Gone t.views.view x.group x.provider) tt h) xs s k

goes_goodbye : (s : Core) (client : List ℕ) (xs : List Provider) (r : Result SessionState GsFault) → Stands s → Goes (length xs) s (goodbye_said s client xs r)
unfolding goodbye_said
goes_goodbye s client xs (Err fault) k = goes_call_refused (length xs) s client fault k
goes_goodbye s client xs (Ok t) k =
    let a : Goes 0 s (with_sessions s t) = goes_sessions s t k in
    free_then (length xs) s (with_sessions s t) (send_all_gone (with_sessions s t) xs) a (goes_all_gone (with_sessions s t) xs a.stands)

pub goes_call : (s : Core) (c : CallLine) → Stands s → Goes (1 + length s.sessions.providers) s (take_call s c)
unfolding take_call
goes_call s c k = by c
  where
    n : ℕ
    n = 1 + length s.sessions.providers

    one : (t : Core) → Goes 1 s t → Goes n s t
    one t x = goes_more 1 n s t (omega arith) x

    by : (c : CallLine) → Goes n s (take_call s c)
    by (call.Init node name votes) = goes_changed n s name (inited s.sessions name) k
    by (call.Join client g instance attrs) = one (take_call s (call.Join client g instance attrs)) (goes_proposed s client (joined s.sessions (client_token s.sessions client) g instance attrs) k)
    by (call.Leave client g phases) = one (take_call s (call.Leave client g phases)) (goes_proposed s client (left s.sessions (caller s.sessions client g) phases) k)
    by (call.Expel client g phases out) = one (take_call s (call.Expel client g phases out)) (goes_proposed s client (expelled s.sessions (caller s.sessions client g) phases out) k)
    by (call.ChangeState client g phases value) = one (take_call s (call.ChangeState client g phases value)) (goes_proposed s client (state_changed s.sessions (caller s.sessions client g) phases value) k)
    by (call.SendMessage client g phases bytes) = one (take_call s (call.SendMessage client g phases bytes)) (goes_proposed s client (message_sent s.sessions (caller s.sessions client g) phases bytes) k)
    by (call.ChangeAttributes client g phases attrs) = one (take_call s (call.ChangeAttributes client g phases attrs)) (goes_proposed s client (attributes_changed s.sessions (caller s.sessions client g) phases attrs) k)
    by (call.Vote client g v value) = one (take_call s (call.Vote client g v value)) (goes_ballot s client (voted s.sessions (caller s.sessions client g) v value) k)
    by (call.Subscribe client g) = goes_changed n s client (subscribe_taken s.sessions (client_token s.sessions client) g (holds s g)) k
    by (call.Unsubscribe client g) = goes_changed n s client (unsubscribe_taken s.sessions (client_token s.sessions client) (subscriber s.sessions client g)) k
    by (call.Goodbye client) =
        let xs : List Provider = filter (is_client_of (client_token s.sessions client)) s.sessions.providers in
        goes_more (length xs) n s (take_call s (call.Goodbye client)) (omega (arith, kept_few (is_client_of (client_token s.sessions client)) s.sessions.providers)) (goes_goodbye s client xs (goodbye_taken s.sessions (client_token s.sessions client)) k)
