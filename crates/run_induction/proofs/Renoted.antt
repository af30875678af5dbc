-- A scene that events lead to is, but for how its events are noted, one of a run in which each step is noted as it is to be; and what
-- is said of records alone holds of the one as of the other.
use Rattle.std.proofs.Common.{◌≡◌, ℕ, ◌+◌, List, [], ◌∷◌, ◌++◌, Some, refl, subst}
use Rattle.std.specs.Prelude.{reverse}
use Rattle.node_state.specs.declared.config.Config.{Config}
use Rattle.node_state.specs.declared.happened.Happened.{Happened}
use Rattle.node_state.specs.declared.happened.Happened.TheVariants as happened
use Rattle.node_state.specs.Step.{NodeEvent, Ticks, Asks, Given, Calls, Garbage, started, stepped}
use Rattle.world_model.specs.declared.event.Event.{Event}
use Rattle.run_safety.specs.Past.{records_of, History, Within, EachRecord}
use Rattle.step_refinement.specs.Tied.{Scene}
use Rattle.step_refinement.specs.Rules.{over, all_started, Arises}
use Rattle.step_refinement.specs.Runs.{Reached}
use Rattle.step_refinement.specs.Runs as runs
use Rattle.run_induction.proofs.Ran.{Telling, Ran, Nothing, AllStart, Starts, Stops, Steps, Notes}

-- the same records, event by event
abbrev SameRecords : History → History → Type 0
SameRecords [] [] = Unit {0}
SameRecords [] (e ∷ h) = ⊥
SameRecords (d ∷ k) [] = ⊥
SameRecords (d ∷ k) (e ∷ h) = (d.records ≡ e.records) × SameRecords k h

same_self : (h : History) → SameRecords h h
same_self [] = tt
same_self (e ∷ h) = (refl, same_self h)

pub records_same : (k h : History) → SameRecords k h → records_of k ≡ records_of h
records_same [] [] s = refl
records_same [] (e ∷ h) s = absurd s
records_same (d ∷ k) [] s = absurd s
records_same (d ∷ k) (e ∷ h) s = λ i. s.0 i ++ records_same k h s.1 i

abbrev pub with_history : Scene → History → Scene
with_history w h = record w { before = h }

pub record Renoted (k : Telling) (c : Config) (w : Scene) : Type 0 where
  pub history : History
  pub ran : Ran k c (with_history w history)
  pub same : SameRecords history w.before

arises_too : (w : Scene) (h : History) (e : NodeEvent) → Arises w e → Arises (with_history w h) e
arises_too w h Ticks k = tt
arises_too w h (Given p) k = k
arises_too w h (Asks mask) k = tt
arises_too w h (Calls c) k = tt
arises_too w h Garbage k = tt

-- where each step may be noted so, and each other event as it is
module _ (k : Telling) (note : ℕ → NodeEvent → Event → Event) (fits : (n : ℕ) (e : NodeEvent) (v : Event) → k.steps n e (note n e v)) (free : (w : Scene) (v : Event) → k.others w v) (c : Config) where
  pub renoted : (w : Scene) → Reached c w → Renoted k c w
  renoted _ runs.Nothing = record { history = []; ran = Nothing; same = tt }
  renoted _ (runs.AllStart fixed) = record { history = (all_started c).before; ran = AllStart fixed; same = same_self (all_started c).before }
  renoted _ (runs.Starts w n e r real nobody down) =
      let z : Renoted k c w = renoted w r in
      let old : Scene = with_history w z.history in
      record { history = over e (started w.config n (w.incs n + 1)) ∷ z.history; ran = Starts old n e z.ran real nobody down (free old e); same = (refl, z.same) }
  renoted _ (runs.Stops w n e s r up) =
      let z : Renoted k c w = renoted w r in
      let old : Scene = with_history w z.history in
      record { history = record { event = Some e; records = happened.Down n ∷ [] } ∷ z.history; ran = Stops old n e s z.ran up (free old e); same = (refl, z.same) }
  renoted _ (runs.Steps w n f s e v r up arises) =
      let z : Renoted k c w = renoted w r in
      let old : Scene = with_history w z.history in
      record { history = over (note n e v) (stepped f s e) ∷ z.history; ran = Steps old n f s e (note n e v) z.ran up (arises_too w z.history e arises) (fits n e v); same = (refl, z.same) }
  renoted _ (runs.Notes w e rs r notes) =
      let z : Renoted k c w = renoted w r in
      let old : Scene = with_history w z.history in
      record { history = record { event = Some e; records = reverse rs } ∷ z.history; ran = Notes old e rs z.ran notes (free old e); same = (refl, z.same) }

-- what is said of records alone
module _ (P : List Happened → History → Happened → Type 0) (on : (now : List Happened) (k h : History) (r : Happened) → records_of k ≡ records_of h → P now k r → P now h r) where
  within_same : (now : List Happened) (k h : History) → SameRecords k h → Within P now k → Within P now h
  within_same [] k h s z = tt
  within_same (r ∷ now) k h s z = (on now k h r (records_same k h s) z.0, within_same now k h s z.1)

  pub each_same : (k h : History) → SameRecords k h → EachRecord P k → EachRecord P h
  each_same [] [] s z = tt
  each_same [] (e ∷ h) s z = absurd s
  each_same (d ∷ k) [] s z = absurd s
  each_same (d ∷ k) (e ∷ h) s z = (subst (λ rs. Within P rs h) s.0 (within_same d.records k h s.1 z.0), each_same k h s.1 z.1)
