-- What a call leaves before the end of its step: it hands nothing to a client but the ballot that a `vote` gives, and
-- within a session the sessions stay.
use Rattle.std.proofs.Common.{◌≡◌, ℕ, Bool, true, false, List, [], ◌∷◌, Option, Some, None, Result, Ok, Err, IsTrue, refl, sym, ap, ◌∙◌}
use Rattle.std.specs.Prelude.{find, fold, if◌then◌else◌}
use Rattle.std.specs.List.{last_or}
use Rattle.group_attr.specs.declared.attrs.Attrs.{Attrs}
use Rattle.group_attr.specs.declared.attrs.Phases.{Phases}
use Rattle.proposal_core.specs.declared.entry.Vote.{Vote}
use Rattle.proposal_core.specs.declared.proposal.Proposal.{Proposal}
use Rattle.proposal_core.specs.declared.proposal.Proposal.TheVariants.{Attributes}
use Rattle.client_callbacks.specs.declared.ballot.Filled.{Filled}
use Rattle.session_state.specs.declared.fault.Field.TheVariants as field
use Rattle.session_state.specs.declared.fault.GsFault.{GsFault}
use Rattle.session_state.specs.declared.fault.GsFault.TheVariants as fault
use Rattle.session_state.specs.declared.state.KeptBallot.{KeptBallot}
use Rattle.session_state.specs.declared.state.MemberToken.{MemberToken}
use Rattle.session_state.specs.declared.state.OpenPhase.{OpenPhase}
use Rattle.session_state.specs.declared.state.Provider.{Provider}
use Rattle.session_state.specs.declared.state.Request.{Request}
use Rattle.session_state.specs.declared.state.SessionState.{SessionState}
use Rattle.session_state.specs.State.{is_member_of, client_token}
use Rattle.session_state.specs.Calls.{is_empty, unless_fault, ask_fault, asked, member_asks, if_session, request_made, member_changes, attributes_changed, vote_in, member_votes, voted, joined, join_fault, join_asked, left, expelled, state_changed, message_sent, subscribe_taken, unsubscribe_taken}
use Rattle.node_state.specs.declared.call.CallLine.{CallLine}
use Rattle.node_state.specs.declared.call.CallLine.TheVariants as call
use Rattle.node_state.specs.declared.happened.Happened.TheVariants as happened
use Rattle.node_state.specs.declared.packet.Body.{Body}
use Rattle.node_state.specs.declared.state.Core.{Core}
use Rattle.proposal_core.specs.declared.group_state.GroupState.{GroupState}
use Rattle.node_state.specs.declared.happened.Happened.{Happened}
use Rattle.node_state.specs.State.{frozen, leader_of, with_sessions, recorded, recorded_all}
use Rattle.node_state.specs.Sending.{send_if_known, send_request_to, send_request, send_kept_to, send_kept}
use Rattle.node_state.specs.Calls.{caller, refuse_call, changed, ask_last, proposed, record_ballot, ballot_sent_if, cast_last, give_ballot, send_gone, send_all_gone, goodbye_said, take_call}
use Rattle.node_state.specs.Step.{NodeEvent, Ticks, Asks, Given, Calls, at_work}
use Rattle.node_state.specs.Step as step
use Rattle.node_state.specs.Handed.{handed_in, Along, logged_in}
use Rattle.node_state.proofs.AlongLaws.{along_records, along_same, along_itself, along_then}
use Rattle.entry_delivery.proofs.DoingLaws.{unlogged}
use Rattle.node_groups.specs.Keeps.{Keeps}
use Rattle.node_groups.proofs.KeepLaws.{keeps_itself, record_keeps, sent_keeps}
use Rattle.node_calls.specs.Calling.{is_within_session}
use Rattle.node_core.specs.Event.{called}
use Rattle.run_hands.specs.Hands.{given_by}

-- the same sessions, nothing more is handed, and the states of groups are as the records tell
pub record Quiet (s t : Core) : Type 0 where
  pub lives : t.sessions.sessions ≡ s.sessions.sessions
  pub unhanded : handed_in t.records ≡ handed_in s.records
  pub along : Along s t

quiet : (s t : Core) → Keeps s t → Quiet s t
quiet s t k = record { lives = k.sessions.0; unhanded = k.handed; along = k.along }

quiet_then : (s t u : Core) → Quiet s t → Quiet t u → Quiet s u
quiet_then s t u a b = record { lives = b.lives ∙ a.lives; unhanded = b.unhanded ∙ a.unhanded; along = along_then s t u a.along b.along }

-- the same sessions, and the states of groups are as the records tell
pub record Still (s t : Core) : Type 0 where
  pub lives : t.sessions.sessions ≡ s.sessions.sessions
  pub along : Along s t

still : (s t : Core) → Quiet s t → Still s t
still s t q = record { lives = q.lives; along = q.along }

still_then : (s t u : Core) → Still s t → Still t u → Still s u
still_then s t u a b = record { lives = b.lives ∙ a.lives; along = along_then s t u a.along b.along }

quiet_with : (s : Core) (u : SessionState) → u.sessions ≡ s.sessions.sessions → Quiet s (with_sessions s u)
unfolding with_sessions
quiet_with s u e = record { lives = e; unhanded = refl; along = along_same s (with_sessions s u) refl refl }

quiet_refused : (s : Core) (client : List ℕ) (f : GsFault) → Quiet s (refuse_call s client f)
unfolding refuse_call
quiet_refused s client f = quiet s (refuse_call s client f) (record_keeps s (happened.Refused s.views.me client f) refl (λ g st. refl))

-- ---- what is sent

known_quiet : (s : Core) (to : Option ℕ) (b : Body) → Quiet s (send_if_known s to b)
unfolding send_if_known
known_quiet s None b = quiet s s (keeps_itself s)
known_quiet s (Some n) b = quiet s (send_if_known s (Some n) b) (sent_keeps s n b)

to_quiet : (s : Core) (q : Request) (to : Option ℕ) → Quiet s (send_request_to s q to)
unfolding send_request_to
to_quiet s q None = quiet s (send_request_to s q None) (sent_keeps s s.views.view.coord _)
to_quiet s q (Some n) = quiet s (send_request_to s q (Some n)) (sent_keeps s n _)

request_quiet : (s : Core) (q : Request) → Quiet s (send_request s q)
unfolding send_request
request_quiet s q = by (frozen s)
  where
    by : (b : Bool) → Quiet s (elim b as (λ x. Core) [ true ↦ s | false ↦ send_request_to s q (leader_of s q.group) ])
    by true = quiet s s (keeps_itself s)
    by false = to_quiet s q (leader_of s q.group)

kept_to_quiet : (s : Core) (k : KeptBallot) (to : Option ℕ) (b : Option Filled) → Quiet s (send_kept_to s k to b)
unfolding send_kept_to
kept_to_quiet s k to None = quiet s s (keeps_itself s)
kept_to_quiet s k to (Some b) = known_quiet s to _

kept_quiet : (s : Core) (k : KeptBallot) → Quiet s (send_kept s k)
unfolding send_kept
kept_quiet s k = kept_to_quiet s k (leader_of s k.group) k.ballot.filled

each_gone_quiet : (s : Core) (xs : List Provider) → Quiet s (fold send_gone s xs)
unfolding send_gone
each_gone_quiet s [] = quiet s s (keeps_itself s)
each_gone_quiet s (x ∷ xs) = quiet_then s (send_gone s x) (fold send_gone s (x ∷ xs)) (known_quiet s (leader_of s x.group) _) (each_gone_quiet (send_gone s x) xs)

all_gone_quiet : (s : Core) (xs : List Provider) → Quiet s (send_all_gone s xs)
unfolding send_all_gone
all_gone_quiet s xs = by (frozen s)
  where
    by : (b : Bool) → Quiet s (elim b as (λ x. Core) [ true ↦ s | false ↦ fold send_gone s xs ])
    by true = quiet s s (keeps_itself s)
    by false = each_gone_quiet s xs

-- ---- what is recorded

asked_quiet : (s : Core) (o : Option Request) → Quiet s (ask_last s o)
unfolding ask_last
asked_quiet s None = quiet s s (keeps_itself s)
asked_quiet s (Some q) =
    let t : Core = recorded s (happened.Asked q.provider q.request q.group q.proposal) in
    quiet_then s t (ask_last s (Some q)) (quiet s t (record_keeps s (happened.Asked q.provider q.request q.group q.proposal) refl (λ g st. refl))) (request_quiet t q)

-- a ballot that is given is recorded as one that is filled

cast_still : (s : Core) (k : KeptBallot) (b : Option Filled) → Still s (record_ballot s k b)
unfolding record_ballot recorded recorded_all
cast_still s k None = still s s (quiet s s (keeps_itself s))
cast_still s k (Some b) = record { lives = refl; along = along_records s (record_ballot s k (Some b)) (happened.Cast k.provider k.proto k.phase b.vote b.value b.message ∷ []) refl refl (λ g st. refl) }

ballot_quiet : (s : Core) (k : KeptBallot) (b : Bool) → Quiet s (ballot_sent_if s k b)
unfolding ballot_sent_if
ballot_quiet s k true = quiet s s (keeps_itself s)
ballot_quiet s k false = kept_quiet s k

last_cast_still : (s : Core) (o : Option KeptBallot) → Still s (cast_last s o)
unfolding cast_last
last_cast_still s None = still s s (quiet s s (keeps_itself s))
last_cast_still s (Some k) =
    let t : Core = record_ballot s k k.ballot.filled in still_then s t (cast_last s (Some k)) (cast_still s k k.ballot.filled) (still t (cast_last s (Some k)) (ballot_quiet t k (frozen s)))

-- ---- calls whose sessions stay

abbrev Same : SessionState → Result SessionState GsFault → Type 0
Same s r = (u : SessionState) → r ≡ Ok u → u.sessions ≡ s.sessions

changed_quiet : (s : Core) (client : List ℕ) (r : Result SessionState GsFault) → Same s.sessions r → Quiet s (changed s client r)
unfolding changed
changed_quiet s client (Ok u) same = quiet_with s u (same u refl)
changed_quiet s client (Err f) same = quiet_refused s client f

proposed_quiet : (s : Core) (client : List ℕ) (r : Result SessionState GsFault) → Same s.sessions r → Quiet s (proposed s client r)
unfolding proposed
proposed_quiet s client (Ok u) same =
    quiet_then s (with_sessions s u) (proposed s client (Ok u)) (quiet_with s u (same u refl)) (asked_quiet (with_sessions s u) (last_or None u.requests))
proposed_quiet s client (Err f) same = quiet_refused s client f

given_still : (s : Core) (client : List ℕ) (r : Result SessionState GsFault) → Same s.sessions r → Still s (give_ballot s client r)
unfolding give_ballot
given_still s client (Ok u) same =
    still_then s (with_sessions s u) (give_ballot s client (Ok u)) (still s (with_sessions s u) (quiet_with s u (same u refl))) (last_cast_still (with_sessions s u) (last_or None u.kept))
given_still s client (Err f) same = still s (refuse_call s client f) (quiet_refused s client f)

module _ (s : SessionState) where
  unless_same : (o : Option GsFault) (t : SessionState) → t.sessions ≡ s.sessions → Same s (unless_fault o t)
  unless_same None t same u e = let is : t ≡ u = cc in ap (λ (z : SessionState). z.sessions) (sym is) ∙ same
  unless_same (Some f) t same u e = absurd cc

  if_same : (b : Bool) (r : Result SessionState GsFault) → Same s r → Same s (if_session b r)
  if_same true r same u e = absurd cc
  if_same false r same u e = same u e

  made_same : (m : MemberToken) (phases : Phases) (f : Option GsFault) (make : Provider → ℕ → Proposal) → Same s (request_made s m phases f make)
  unfolding request_made asked
  made_same m phases f make = if_same (is_empty s.sessions) _ (by (find (is_member_of m) s.providers))
    where
      by : (o : Option Provider) → Same s (member_asks s o phases f make)
      by None u e = absurd cc
      by (Some x) u e = unless_same (ask_fault s x f) (asked s x phases (make x)) refl u e

  attributes_same : (m : MemberToken) (phases : Phases) (attrs : Attrs) → Same s (attributes_changed s m phases attrs)
  unfolding attributes_changed asked
  attributes_same m phases attrs = if_same (is_empty s.sessions) _ (by (find (is_member_of m) s.providers))
    where
      by : (o : Option Provider) → Same s (member_changes s o phases attrs)
      by None u e = absurd cc
      by (Some x) u e = unless_same _ (asked s x phases (λ r. Attributes x.provider r attrs)) refl u e

  votes_same : (m : MemberToken) (v : Vote) (value : Option (List ℕ)) → Same s (voted s m v value)
  unfolding voted
  votes_same m v value = if_same (is_empty s.sessions) _ (by (find (is_member_of m) s.providers))
    where
      in_phase : (x : Provider) (o : Option OpenPhase) → Same s (vote_in s x v value o)
      in_phase x None u e = absurd cc
      in_phase x (Some o) u e = unless_same _ _ refl u e

      fits : (x : Provider) (b : Bool) → Same s (if b then vote_in s x v value x.opened else Err (fault.BadParameter field.Value))
      fits x true u e = in_phase x x.opened u e
      fits x false u e = absurd cc

      by : (o : Option Provider) → Same s (member_votes s o v value)
      by None u e = absurd cc
      by (Some x) u e = fits x _ u e

-- ---- the calls

-- it gives no ballot
abbrev is_silent : CallLine → Bool
is_silent (call.Vote client g vote value) = false
is_silent _ = true

within_quiet : (s : Core) (c : CallLine) → IsTrue (is_within_session c) → IsTrue (is_silent c) → Quiet s (take_call s c)
unfolding take_call joined left expelled state_changed message_sent subscribe_taken unsubscribe_taken join_asked
within_quiet s (call.Init node name votes) h n = absurd cc
within_quiet s (call.Join client g instance attrs) h n = proposed_quiet s client _ (unless_same s.sessions (join_fault s.sessions (client_token s.sessions client) g attrs) (join_asked s.sessions (client_token s.sessions client) g instance attrs) refl)
within_quiet s (call.Leave client g phases) h n = proposed_quiet s client _ (made_same s.sessions (caller s.sessions client g) phases _ _)
within_quiet s (call.Expel client g phases out) h n = proposed_quiet s client _ (made_same s.sessions (caller s.sessions client g) phases _ _)
within_quiet s (call.ChangeState client g phases value) h n = proposed_quiet s client _ (made_same s.sessions (caller s.sessions client g) phases _ _)
within_quiet s (call.SendMessage client g phases bytes) h n = proposed_quiet s client _ (made_same s.sessions (caller s.sessions client g) phases _ _)
within_quiet s (call.ChangeAttributes client g phases attrs) h n = proposed_quiet s client _ (attributes_same s.sessions (caller s.sessions client g) phases attrs)
within_quiet s (call.Vote client g v value) h n = absurd cc
within_quiet s (call.Subscribe client g) h n = changed_quiet s client _ (unless_same s.sessions _ _ refl)
within_quiet s (call.Unsubscribe client g) h n = changed_quiet s client _ (unless_same s.sessions _ _ refl)
within_quiet s (call.Goodbye client) h n = absurd cc

vote_still : (s : Core) (client g : List ℕ) (v : Vote) (value : Option (List ℕ)) → Still s (take_call s (call.Vote client g v value))
unfolding take_call
vote_still s client g v value = given_still s client _ (votes_same s.sessions (caller s.sessions client g) v value)

within_still : (s : Core) (c : CallLine) → IsTrue (is_within_session c) → Still s (take_call s c)
within_still s (call.Vote client g v value) h = vote_still s client g v value
within_still s (call.Init node name votes) h = absurd cc
within_still s (call.Goodbye client) h = absurd cc
within_still s (call.Join client g instance attrs) h = still s _ (within_quiet s (call.Join client g instance attrs) refl refl)
within_still s (call.Leave client g phases) h = still s _ (within_quiet s (call.Leave client g phases) refl refl)
within_still s (call.Expel client g phases out) h = still s _ (within_quiet s (call.Expel client g phases out) refl refl)
within_still s (call.ChangeState client g phases value) h = still s _ (within_quiet s (call.ChangeState client g phases value) refl refl)
within_still s (call.SendMessage client g phases bytes) h = still s _ (within_quiet s (call.SendMessage client g phases bytes) refl refl)
within_still s (call.ChangeAttributes client g phases attrs) h = still s _ (within_quiet s (call.ChangeAttributes client g phases attrs) refl refl)
within_still s (call.Subscribe client g) h = still s _ (within_quiet s (call.Subscribe client g) refl refl)
within_still s (call.Unsubscribe client g) h = still s _ (within_quiet s (call.Unsubscribe client g) refl refl)

-- nothing more is handed than this, and the states of groups are as the records tell
record Unheard (s t : Core) : Type 0 where
  unhanded : handed_in t.records ≡ handed_in s.records
  along : Along s t

unheard : (s t : Core) → Quiet s t → Unheard s t
unheard s t q = record { unhanded = q.unhanded; along = q.along }

init_unheard : (s : Core) (client : List ℕ) (r : Result SessionState GsFault) → Unheard s (changed s client r)
unfolding changed with_sessions
init_unheard s client (Ok u) = record { unhanded = refl; along = along_same s (changed s client (Ok u)) refl refl }
init_unheard s client (Err f) = unheard s _ (quiet_refused s client f)

goodbye_unheard : (s : Core) (client : List ℕ) (ended : List Provider) (r : Result SessionState GsFault) → Unheard s (goodbye_said s client ended r)
unfolding goodbye_said with_sessions
goodbye_unheard s client ended (Ok u) =
    let t : Core = with_sessions s u in
    let q : Quiet t (send_all_gone t ended) = all_gone_quiet t ended in record { unhanded = q.unhanded; along = along_then s t _ (along_same s t refl refl) q.along }
goodbye_unheard s client ended (Err f) = unheard s _ (quiet_refused s client f)

call_unheard : (s : Core) (c : CallLine) → IsTrue (is_silent c) → Unheard s (take_call s c)
unfolding take_call
call_unheard s (call.Init node name votes) n = init_unheard s name _
call_unheard s (call.Goodbye client) n = goodbye_unheard s client _ _
call_unheard s (call.Join client g instance attrs) n = unheard s _ (within_quiet s (call.Join client g instance attrs) refl refl)
call_unheard s (call.Leave client g phases) n = unheard s _ (within_quiet s (call.Leave client g phases) refl refl)
call_unheard s (call.Expel client g phases out) n = unheard s _ (within_quiet s (call.Expel client g phases out) refl refl)
call_unheard s (call.ChangeState client g phases value) n = unheard s _ (within_quiet s (call.ChangeState client g phases value) refl refl)
call_unheard s (call.SendMessage client g phases bytes) n = unheard s _ (within_quiet s (call.SendMessage client g phases bytes) refl refl)
call_unheard s (call.ChangeAttributes client g phases attrs) n = unheard s _ (within_quiet s (call.ChangeAttributes client g phases attrs) refl refl)
call_unheard s (call.Vote client g v value) n = absurd cc
call_unheard s (call.Subscribe client g) n = unheard s _ (within_quiet s (call.Subscribe client g) refl refl)
call_unheard s (call.Unsubscribe client g) n = unheard s _ (within_quiet s (call.Unsubscribe client g) refl refl)

-- ---- events

-- what the records that a call leaves tell is what a `vote` gives
pub record CallHands (s t : Core) (given : List Happened) : Type 0 where
  pub told : handed_in t.records ≡ handed_in given
  pub stated : (states : List ℕ → GroupState) → logged_in t.records states ≡ logged_in given states
  pub along : Along s t

nothing_handed : (s t : Core) → s.records ≡ [] → Unheard s t → CallHands s t []
nothing_handed s t empty u =
    let none : handed_in t.records ≡ [] = u.unhanded ∙ ap handed_in empty in record { told = none; stated = λ states. unlogged t.records states none; along = u.along }

call_hands : (s : Core) (c : CallLine) → CallHands (at_work s) (take_call (at_work s) c) (given_by (at_work s) (Calls c))
call_hands s (call.Vote client g v value) = record { told = refl; stated = λ states. refl; along = (vote_still (at_work s) client g v value).along }
call_hands s (call.Init node name votes) = nothing_handed (at_work s) _ refl (call_unheard (at_work s) (call.Init node name votes) refl)
call_hands s (call.Goodbye client) = nothing_handed (at_work s) _ refl (call_unheard (at_work s) (call.Goodbye client) refl)
call_hands s (call.Join client g instance attrs) = nothing_handed (at_work s) _ refl (call_unheard (at_work s) (call.Join client g instance attrs) refl)
call_hands s (call.Leave client g phases) = nothing_handed (at_work s) _ refl (call_unheard (at_work s) (call.Leave client g phases) refl)
call_hands s (call.Expel client g phases out) = nothing_handed (at_work s) _ refl (call_unheard (at_work s) (call.Expel client g phases out) refl)
call_hands s (call.ChangeState client g phases value) = nothing_handed (at_work s) _ refl (call_unheard (at_work s) (call.ChangeState client g phases value) refl)
call_hands s (call.SendMessage client g phases bytes) = nothing_handed (at_work s) _ refl (call_unheard (at_work s) (call.SendMessage client g phases bytes) refl)
call_hands s (call.ChangeAttributes client g phases attrs) = nothing_handed (at_work s) _ refl (call_unheard (at_work s) (call.ChangeAttributes client g phases attrs) refl)
call_hands s (call.Subscribe client g) = nothing_handed (at_work s) _ refl (call_unheard (at_work s) (call.Subscribe client g) refl)
call_hands s (call.Unsubscribe client g) = nothing_handed (at_work s) _ refl (call_unheard (at_work s) (call.Unsubscribe client g) refl)

idle : (s : Core) → CallHands (at_work s) (at_work s) []
idle s = nothing_handed (at_work s) (at_work s) refl (record { unhanded = refl; along = along_itself (at_work s) })

-- no event hands anything to a client before its rows but the ballot that a call gives
pub called_hands : (s : Core) (ev : NodeEvent) → CallHands (at_work s) (called (at_work s) ev) (given_by (at_work s) ev)
called_hands s Ticks = idle s
called_hands s (Asks mask) = idle s
called_hands s (Given p) = idle s
called_hands s step.Garbage = idle s
called_hands s (Calls c) = call_hands s c

-- the event neither begins nor ends a session
abbrev pub is_within : NodeEvent → Bool
is_within (Calls c) = is_within_session c
is_within _ = true

pub called_lives : (s : Core) (ev : NodeEvent) → IsTrue (is_within ev) → (called (at_work s) ev).sessions.sessions ≡ s.sessions.sessions
called_lives s Ticks h = refl
called_lives s (Asks mask) h = refl
called_lives s (Given p) h = refl
called_lives s step.Garbage h = refl
called_lives s (Calls c) h = (within_still (at_work s) c h).lives
