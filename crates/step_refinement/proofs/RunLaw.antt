-- Each scene that events lead to is safe.
use Rattle.std.proofs.Common.{ℕ, List, subst}
use Rattle.node_state.specs.declared.config.Config.{Config}
use Rattle.run_safety.specs.SafeGroups.{SafeGroups, SafeLines}
use Rattle.run_safety.proofs.Lives.{lives_are_safe}
use Rattle.run_safety.proofs.SightLaws.{one_entry_seen}
use Rattle.step_refinement.specs.Tied.{Scene, Rests, opening_of}
use Rattle.step_refinement.specs.Runs.{RunsAreSafe, Reached, Nothing, AllStart, Starts, Stops, Steps, Notes}
use Rattle.step_refinement.proofs.Begins.{nothing_tied, start_tied, stop_tied}
use Rattle.step_refinement.proofs.FixedStart.{fixed_start_tied}
use Rattle.step_refinement.proofs.Steps.{step_tied}
use Rattle.step_refinement.proofs.Noting.{note_tied}

pub reached_rests : (c : Config) (w : Scene) → Reached c w → (g : List ℕ) → Rests g w
reached_rests c _ Nothing g = nothing_tied g c
reached_rests c _ (AllStart fixed) g = fixed_start_tied g c fixed
reached_rests c _ (Starts w n e k free real down) g = start_tied g w n e free real down (reached_rests c w k g)
reached_rests c _ (Stops w n e s k up) g = stop_tied g w n e s up (reached_rests c w k g)
reached_rests c _ (Steps w n f s e v k up arises) g = step_tied w n f s e v up (λ h. reached_rests c w k h) arises g
reached_rests c _ (Notes w e rs k notes) g = note_tied g w e rs notes (reached_rests c w k g)

reached_safe : (c : Config) (w : Scene) → Reached c w → SafeGroups (opening_of w.config) w.before
reached_safe c w k g =
    let t = reached_rests c w k g in
    let x = t.ghost in
    subst (SafeLines (opening_of w.config)) t.lines (lives_are_safe (opening_of w.config) x.nodes x.ps x.all x.leads x.bases t.life)

pub reached_runs : RunsAreSafe
reached_runs c w k = let a = reached_safe c w k in (a, one_entry_seen (opening_of w.config) w.before a)
