-- The states that come with what clients hear are kept folds.
use Rattle.std.proofs.Common.{◌≡◌, ℕ, List, [], ◌∷◌, ◌++◌, Some, subst, append_assoc}
use Rattle.client_callbacks.specs.Handed.{Handed}
use Rattle.node_state.specs.declared.config.Config.{Config}
use Rattle.node_state.specs.declared.happened.Happened.{Happened}
use Rattle.node_state.specs.Handed.{Logged, logged_in}
use Rattle.node_state.specs.State.{state_of}
use Rattle.entry_delivery.specs.Received.{Handing, logged, logged_by}
use Rattle.world_model.specs.World.{Node, node_at}
use Rattle.world_laws.specs.world_runs.Runs.{Recorded}
use Rattle.world_laws.specs.world_answers.Answers.{Answered, events_in, answered_after}
use Rattle.world_safety.specs.Events.{AllMayHappen}
use Rattle.world_safety.specs.HeardStates.{FoldAt, AreFolds, stepping}
use Rattle.world_safety.proofs.HeardStates.{heard_states_are_folds, folds_stay}
use Rattle.world_safety.proofs.Steady.{folds_both}
use Rattle.run_hands.specs.Logs.{IsKept, StatesAreFolds}
use Rattle.run_hands.proofs.EveryLog.{holds_of_logs}

folds_behind : (rs : List Happened) (xs ys : List Logged) → AreFolds rs (xs ++ ys) → AreFolds rs ys
folds_behind rs [] ys k = k
folds_behind rs (x ∷ xs) ys k = folds_behind rs xs ys k.1

fold_of : (rs : List Happened) (before : List Handing) (h : Handing) (after : List Handing) → AreFolds rs (logged_by (before ++ h ∷ after)) → FoldAt rs h.what h.after
fold_of rs [] h after k = k.0
fold_of rs (b ∷ before) h after k = fold_of rs before h after k.1

folds_handed : (c : Config) (es : List Answered) (e : Answered) (n : ℕ) (x : Node) (rs : List Happened) → AllMayHappen c (events_in (es ++ e ∷ [])) → stepping e.event ≡ Some n → node_at (answered_after c es) n ≡ Some x
    → Recorded (answered_after c es) (answered_after c (es ++ e ∷ [])) rs
    → (given : List Logged) (before : List Handing) (h : Handing) (after : List Handing) → logged_in rs (state_of x.core) ≡ given ++ logged_by (before ++ h ∷ after)
    → (log : List Logged) → AreFolds (answered_after c (es ++ e ∷ [])).trace log → AreFolds (answered_after c (es ++ e ∷ [])).trace (log ++ logged h ∷ [])
folds_handed c es e n x rs may is at recorded given before h after whole log k =
    let tr : List Happened = (answered_after c (es ++ e ∷ [])).trace in
    let all : AreFolds tr (given ++ logged_by (before ++ h ∷ after)) = subst (AreFolds tr) whole (heard_states_are_folds c es e n x rs may is at recorded) in
    folds_both tr log (logged h ∷ []) k (fold_of tr before h after (folds_behind tr given (logged_by (before ++ h ∷ after)) all), tt)

folds_are_kept : IsKept AreFolds
folds_are_kept = record { empty = λ rs. tt; stays = folds_stay; handed = folds_handed }

pub states_are_folds : {C : Type 0} (R : C → List Handed → Type 0) (c : Config) (all : List Answered) → AllMayHappen c (events_in all) → StatesAreFolds R c all
states_are_folds R c all may = holds_of_logs AreFolds folds_are_kept R c all may
