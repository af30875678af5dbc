-- What holds of each log, of a run by its records; and so it is with the states that come with what clients hear: each is
-- the fold of the entries of its group's list up to the one that is heard.
use Rattle.std.specs.Prelude.{◌≡◌, ℕ, List, [], ◌∷◌, ◌++◌, Option, Some}
use Rattle.client_callbacks.specs.Handed.{Handed}
use Rattle.node_state.specs.declared.config.Config.{Config}
use Rattle.node_state.specs.declared.happened.Happened.{Happened}
use Rattle.node_state.specs.Handed.{Logged, logged_in}
use Rattle.node_state.specs.State.{state_of}
use Rattle.entry_delivery.specs.Received.{Handing, logged, logged_by}
use Rattle.world_model.specs.World.{Node, node_at, world_new}
use Rattle.world_laws.specs.world_runs.Runs.{Recorded}
use Rattle.world_laws.specs.world_answers.Answers.{Answered, events_in, answered_after}
use Rattle.world_safety.specs.Events.{AllMayHappen}
use Rattle.world_safety.specs.HeardStates.{AreFolds, stepping}
use Rattle.run_hands.specs.Hands.{Logs, RunHands, empty_logs}

-- of each of these logs
abbrev pub OfEach : (List Logged → Type 0) → List (List Logged) → Type 0
OfEach P [] = Unit {0}
OfEach P (log ∷ logs) = P log × OfEach P logs

-- of the logs of each node
abbrev pub OfLogs : (List Logged → Type 0) → Logs → Type 0
OfLogs P [] = Unit {0}
OfLogs P (x ∷ xs) = OfEach P x.logs × OfLogs P xs

-- Of a log by the records so far, the latest first: it holds of an empty log, it stays when more happens, and what a step
-- hands to a client keeps it, one handing after the other. `before` and `after` are those around it in that step, behind
-- what a `vote` call gave.
pub record IsKept (P : List Happened → List Logged → Type 0) : Type 0 where
  pub empty : (rs : List Happened) → P rs []
  pub stays : (c : Config) (es : List Answered) (e : Answered) (log : List Logged) → AllMayHappen c (events_in (es ++ e ∷ [])) → P (answered_after c es).trace log → P (answered_after c (es ++ e ∷ [])).trace log
  pub handed :
      (c : Config) (es : List Answered) (e : Answered) (n : ℕ) (x : Node) (rs : List Happened) → AllMayHappen c (events_in (es ++ e ∷ [])) → stepping e.event ≡ Some n → node_at (answered_after c es) n ≡ Some x
      → Recorded (answered_after c es) (answered_after c (es ++ e ∷ [])) rs
      → (given : List Logged) (before : List Handing) (h : Handing) (after : List Handing) → logged_in rs (state_of x.core) ≡ given ++ logged_by (before ++ h ∷ after)
      → (log : List Logged) → P (answered_after c (es ++ e ∷ [])).trace log → P (answered_after c (es ++ e ∷ [])).trace (log ++ logged h ∷ [])

-- After any front of these events it holds of each log that they hand out, by the records so far. So it is also in the logs
-- of clients that are gone later.
abbrev pub HoldsOfLogs : {C : Type 0} → (List Happened → List Logged → Type 0) → (C → List Handed → Type 0) → Config → List Answered → Type 0
HoldsOfLogs P R c all =
    (es fs : List Answered) → all ≡ es ++ fs → (logs : Logs) → RunHands R (world_new c) es (empty_logs (world_new c)) logs → OfLogs (P (answered_after c es).trace) logs

-- The state that comes with the entry at place i of a group's list is the fold of the first i + 1 entries of that list.
abbrev pub StatesAreFolds : {C : Type 0} → (C → List Handed → Type 0) → Config → List Answered → Type 0
StatesAreFolds R c all = HoldsOfLogs AreFolds R c all
