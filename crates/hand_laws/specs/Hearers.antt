-- What holds of every log of a run, where it is kept handing by handing: each goes to the client whose provider it concerns, and that
-- one was handed all that the provider heard before.
use Rattle.std.specs.Prelude.{◌≡◌, ℕ, List, [], ◌∷◌, ◌++◌, length, Option, Some, None, slice_get}
use Rattle.std.specs.List.{fold}
use Rattle.rsct_packet.specs.declared.ids.ProviderId.{ProviderId}
use Rattle.rsct_packet.specs.Search.{Has}
use Rattle.client_callbacks.specs.Handed.{Handed}
use Rattle.session_state.specs.State.{place_of}
use Rattle.node_state.specs.declared.config.Config.{Config}
use Rattle.node_state.specs.declared.happened.Happened.{Happened}
use Rattle.node_state.specs.declared.happened.Happened.TheVariants.{Heard, Cast}
use Rattle.node_state.specs.declared.state.Core.{Core}
use Rattle.node_state.specs.Handed.{Logged}
use Rattle.node_state.specs.Step.{NodeEvent}
use Rattle.entry_delivery.specs.Received.{Handing, IsLog, handed_by, logged}
use Rattle.world_model.specs.World.{Node, node_at, world_new}
use Rattle.world_laws.specs.world_answers.Answers.{Answered, answered_after}
use Rattle.world_safety.specs.HeardStates.{FoldAt}
use Rattle.hearing_laws.specs.Walk.{Hearing, heard_after, heard_by}
use Rattle.run_hands.specs.Hands.{Logs, logs_of, given_by, RunHands, empty_logs}
use Rattle.run_hands.specs.Logs.{OfLogs}

-- what a log tells that a provider heard, the latest first
abbrev pub heard_in : ProviderId → List Logged → List Hearing
heard_in p log = fold (λ (hs : List Hearing) (l : Logged). heard_after p l.what hs) [] log

-- what it heard after these handings too
abbrev pub heard_then : ProviderId → List Hearing → List Handing → List Hearing
heard_then p hs before = fold (λ (old : List Hearing) (h : Handing). heard_after p h.what old) hs before

-- no ballot
abbrev pub IsUncast : Happened → Type 0
IsUncast (Cast p proto phase vote value message) = ⊥
IsUncast _ = Unit {0}

-- whose record of hearing or casting it is
abbrev pub voice : Happened → Option ProviderId
voice (Heard p v g i e members value) = Some p
voice (Cast p proto phase vote value message) = Some p
voice _ = None

-- At an event this is handed to the client of a log, after these records. What the provider whose it is heard before, the log tells; the
-- state that comes with an entry is the fold of its group's list; and some client stands for the log and all that the event adds to it.
pub record Moment {C : Type 0} (R : C → List Handed → Type 0) (c : Config) (es : List Answered) (e : Answered) (older : List Happened) (h : Handing) (log : List Logged) : Type 0 where
  pub newer : List Happened
  pub now : (answered_after c (es ++ e ∷ [])).trace ≡ newer ++ h.what ∷ older
  pub fold : FoldAt (answered_after c (es ++ e ∷ [])).trace h.what h.after
  pub heard : (p : ProviderId) → voice h.what ≡ Some p → heard_in p log ≡ heard_by p older
  pub client : C
  pub more : List Logged
  pub stands : R client (handed_by ((log ++ logged h ∷ []) ++ more))
  pub is_log : IsLog ((log ++ logged h ∷ []) ++ more)

-- P of a log and K of a record: both are kept by each handing of the run, where P held of the log and K of all records before. K says
-- something of ballots alone, and nothing of one that a call gives.
pub record IsKeptAlong {C : Type 0} (R : C → List Handed → Type 0) (c : Config) (all : List Answered) (P : List Logged → Type 0) (K : Happened → Type 0) : Type 0 where
  pub empty : P []
  pub uncast : (r : Happened) → IsUncast r → K r
  pub given : (s : Core) (ev : NodeEvent) → s.records ≡ [] → (r : Happened) → Has r (given_by s ev) → K r
  pub handed :
      (es fs : List Answered) (e : Answered) (older : List Happened) (h : Handing) (log : List Logged) → all ≡ es ++ e ∷ fs → Moment R c es e older h log
      → P log → ((r : Happened) → Has r older → K r) → P (log ++ logged h ∷ []) × K h.what

-- then P holds of each log that a front of these events hands out, also of those of clients that are gone later, and K of each record
abbrev pub HoldsAlong : {C : Type 0} → (C → List Handed → Type 0) → Config → List Answered → (List Logged → Type 0) → (Happened → Type 0) → Type 0
HoldsAlong R c all P K =
    (es fs : List Answered) → all ≡ es ++ fs → (logs : Logs) → RunHands R (world_new c) es (empty_logs (world_new c)) logs → OfLogs P logs × ((r : Happened) → Has r (answered_after c es).trace → K r)

-- Each session of a node that is up has a log, and that has all that each provider of the session heard so far.
abbrev pub LogsHaveAll : {C : Type 0} → (C → List Handed → Type 0) → Config → List Answered → Type 0
LogsHaveAll R c all =
    (es fs : List Answered) → all ≡ es ++ fs → (logs : Logs) → RunHands R (world_new c) es (empty_logs (world_new c)) logs → (n : ℕ) (x : Node) → node_at (answered_after c es) n ≡ Some x
    → (length (logs_of n logs) ≡ length x.core.sessions.sessions) × ((p : ProviderId) (i : ℕ) (log : List Logged) → place_of x.core.sessions p ≡ Some i → slice_get (logs_of n logs) i ≡ Some log → heard_in p log ≡ heard_by p (answered_after c es).trace)
