-- From one front of the events to a later one.
use Rattle.std.proofs.Common.{◌≡◌, List, [], ◌∷◌, ◌++◌, sym, ap, ◌∙◌, subst, append_assoc, append-nil}
use Rattle.std.specs.Prelude.{reverse}
use Rattle.node_state.specs.declared.config.Config.{Config}
use Rattle.run_safety.specs.Past.{records_of, history_of}
use Rattle.step_refinement.specs.Tied.{Scene}
use Rattle.step_refinement.specs.Runs.{Reached}
use Rattle.entry_laws.specs.source_order.Meant.{DeliveriesAreNoted}
use Rattle.world_laws.specs.world_answers.Answers.{Answered, goes_on, events_in, answered_after, answered_records}
use Rattle.world_safety.specs.Events.{run_of_events, AllMayHappen}
use Rattle.world_safety.specs.Mirrors.{Mirrors}
use Rattle.world_safety.proofs.Following.{Follows, event_follows}
use Rattle.world_safety.proofs.Runs.{every_run_is_reached}
use Rattle.world_safety.proofs.Moments.{front_may}
use Rattle.world_safety.proofs.HeardStates.{last_may}
use Rattle.world_safety.proofs.Turned.{back_again}
use Rattle.world_safety.proofs.Traces.{run_has_the_records}
use Rattle.world_safety.proofs.SteadyRuns.{history_records}

module _ (c : Config) where
  -- what holds of the world after some events, and goes on, holds after more
  module _ (P : List Answered → Type 0) (on : (done : List Answered) (e : Answered) → AllMayHappen c (events_in (done ++ e ∷ [])) → P done → P (done ++ e ∷ [])) where
    pub goes_further : (rest done : List Answered) → AllMayHappen c (events_in (done ++ rest)) → P done → P (done ++ rest)
    goes_further [] done may p = subst P (sym (append-nil done)) p
    goes_further (e ∷ rest) done may p =
        let same : (done ++ e ∷ []) ++ rest ≡ done ++ e ∷ rest = append_assoc done (e ∷ []) rest in
        let all : AllMayHappen c (events_in ((done ++ e ∷ []) ++ rest)) = subst (λ z. AllMayHappen c (events_in z)) (sym same) may in
        subst P same (goes_further rest (done ++ e ∷ []) all (on done e (front_may c (done ++ e ∷ []) rest all) p))

  -- the scene at an event and the one after it
  pub record Turned (done : List Answered) (e : Answered) : Type 0 where
    pub scene : Scene
    pub reached : Reached c scene
    pub noted : DeliveriesAreNoted c scene reached
    pub mirrors : Mirrors c (answered_after c done) scene
    pub next : Follows c scene reached e.event (answered_after c done) (goes_on (answered_after c done) e)
    pub trace : records_of scene.before ≡ (answered_after c done).trace

  pub trace_is : (es : List Answered) → records_of (history_of (run_of_events c es)) ≡ (answered_after c es).trace
  unfolding answered_records
  trace_is es = history_records (run_of_events c es) ∙ (ap reverse (run_has_the_records c es) ∙ back_again (answered_after c es).trace)

  pub turned_at : (done : List Answered) (e : Answered) → AllMayHappen c (events_in (done ++ e ∷ [])) → Turned done e
  turned_at done e may =
      let run = every_run_is_reached c done (front_may c done (e ∷ []) may) in
      record { scene = run.0; reached = run.1; noted = run.7; mirrors = run.4; next = event_follows e.answers c (answered_after c done) run.0 e.event (last_may c done e may) run.1 run.4; trace = ap records_of run.5 ∙ trace_is done }
