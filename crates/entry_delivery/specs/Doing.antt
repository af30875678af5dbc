-- What a row does where clients answer. Each question that the row asks a client is listed with its answer, so
-- that a row is what its definition gives for any answers that agree with these.
use Rattle.std.specs.Prelude.{◌≡◌, ℕ, ◌≤◌, ◌+◌, ◌++◌, List, [], ◌∷◌, length, map, Option, IsTrue}
use Rattle.rsct_packet.specs.declared.ids.ProviderId.{ProviderId}
use Rattle.proposal_core.specs.declared.entry.Entry.{Entry}
use Rattle.proposal_core.specs.declared.group_state.GroupState.{GroupState}
use Rattle.client_callbacks.specs.declared.ballot.Filled.{Filled}
use Rattle.client_callbacks.specs.declared.votes.VoteItem.{VoteItem}
use Rattle.client_callbacks.specs.Ballots.{is_level}
use Rattle.session_state.specs.declared.state.Session.{Session}
use Rattle.session_state.specs.declared.state.SessionState.{SessionState}
use Rattle.session_state.specs.HandOn.{asks}
use Rattle.session_clients.specs.Notices.{Filling}
use Rattle.node_state.specs.declared.state.Core.{Core}
use Rattle.node_state.specs.HandOn.{Answering, answer_if}
use Rattle.session_state.specs.Owners.{KeepsOwners}
use Rattle.node_state.specs.declared.happened.Happened.{Happened}
use Rattle.node_state.specs.State.{InNameOrder, state_of}
use Rattle.node_state.specs.Handed.{handed_in, Along, logged_in}
use Rattle.client_callbacks.specs.Handed.{Handed}
use Rattle.entry_delivery.specs.Received.{Handing, AreFor, Receive, told_by, logged_by}

-- the client of p is handed a notice, before which so many records stand, and leaves its ballot like this
pub record Question : Type 0 where
  pub place : ℕ
  pub sessions : SessionState
  pub entry : Entry
  pub after : GroupState
  pub provider : ProviderId
  pub filled : Option Filled

-- f answers as the client did, where a vote is asked for
abbrev pub AnswersAs : Answering → Question → Type 0
AnswersAs f q = answer_if (asks q.entry q.after q.provider) (f q.place q.sessions q.entry q.after q.provider) ≡ answer_if (asks q.entry q.after q.provider) q.filled

abbrev pub Agrees : Answering → List Question → Type 0
Agrees f [] = Unit {0}
Agrees f (q ∷ qs) = AnswersAs f q × Agrees f qs

-- the questions' places rise, from low up to below high
abbrev pub Rise : ℕ → ℕ → List Question → Type 0
Rise low high [] = low ≤ high
Rise low high (q ∷ qs) = (low ≤ q.place) × Rise (q.place + 1) high qs

-- the clients are those of these sessions, and each fills what it may: what its items say, where it votes by items
abbrev pub AreFilled : List (Option (List (Option VoteItem))) → List Session → List Question → Type 0
AreFilled scripts lives [] = Unit {0}
AreFilled scripts lives (q ∷ qs) = (q.sessions.sessions ≡ lives) × (Filling scripts q.sessions q.entry q.after q.provider q.filled × AreFilled scripts lives qs)

-- no record is lost, the sessions are the same ones, nothing is handed to a client, each provider stays its client's, and
-- the states of groups are as the records tell
pub record Follows (s t : Core) : Type 0 where
  pub grows : length s.records ≤ length t.records
  pub lives : t.sessions.sessions ≡ s.sessions.sessions
  pub handed : handed_in t.records ≡ handed_in s.records
  pub owners : KeepsOwners s.sessions t.sessions
  pub along : Along s t

-- with the states that the records make of those in s, these tell just what was handed
abbrev pub Stated : Core → List Happened → List Handing → Type 0
Stated s rs hs = InNameOrder s.groups → logged_in rs (state_of s) ≡ logged_by hs

-- what holds of one part and of the next holds of both
abbrev pub Joins : (List Handing → Type 0) → (List Handing → Type 0) → (List Handing → Type 0) → Type 0
Joins P Q W = (xs ys : List Handing) → P xs → Q ys → W (xs ++ ys)

abbrev pub IsNothing : List Handing → Type 0
IsNothing hs = hs ≡ []

-- t is what the rule makes of s, for all answers that agree with those of the clients, which vote by these scripts.
-- What was handed to the clients is what the rule's records tell, each to the client whose it is, with the state of its
-- group after it, and P holds of it.
pub record Does (scripts : List (Option (List (Option VoteItem)))) (P : List Handing → Type 0) (s t : Core) (rule : Answering → Core) : Type 0 where
  pub asked : List Question
  pub filled : AreFilled scripts s.sessions.sessions asked
  pub placed : Rise (length s.records) (length t.records) asked
  pub lives : t.sessions.sessions ≡ s.sessions.sessions
  pub does : (f : Answering) → Agrees f asked → t ≡ rule f
  pub handings : List Handing
  pub told : handed_in t.records ≡ handed_in s.records ++ told_by handings
  pub owned : AreFor s.sessions handings
  pub owners : KeepsOwners s.sessions t.sessions
  pub along : Along s t
  pub stated : Stated s along.records handings
  pub received : P handings

-- as many clients as sessions, at a level that there is
pub record Ready {C : Type 0} (s : Core) (clients : List C) : Type 0 where
  pub level : IsTrue (is_level s.sessions.level)
  pub aligned : length clients ≡ length s.sessions.sessions

-- what a rule does where these clients answer, which stand for what they were handed
abbrev pub RuleDoes : {C : Type 0} → (C → Option (List (Option VoteItem))) → (C → List Handed → Type 0) → List C → List C → Core → Core → (Answering → Core) → Type 0
RuleDoes script stands_for old new s t rule = Does (map script old) (Receive stands_for old new) s t rule
