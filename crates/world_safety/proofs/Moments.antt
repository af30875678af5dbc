-- At each moment of a run its nodes are those of a scene that events lead to.
use Rattle.std.proofs.Common.{◌≡◌, List, [], ◌∷◌, ◌++◌, ◌∙◌, subst}
use Rattle.node_state.specs.declared.config.Config.{Config}
use Rattle.node_state.specs.Step.{NodeEvent, Ticks, Asks, Given, Calls, Garbage}
use Rattle.world_model.specs.World.{World}
use Rattle.step_refinement.specs.Tied.{Scene}
use Rattle.step_refinement.specs.Rules.{Arises}
use Rattle.run_laws.specs.tails.Tails.{TailsHeld}
use Rattle.run_laws.proofs.tails.Law.{tails_held}
use Rattle.send_laws.proofs.Law.{runs_send}
use Rattle.world_laws.specs.world_answers.Answers.{Answered, events_in, answered_after}
use Rattle.world_safety.specs.Events.{AllMayHappen}
use Rattle.world_safety.specs.Mirrors.{Mirrors}
use Rattle.world_safety.specs.Moments.{AtEachMoment, AllTailsHeld, CanCome, StepsSendFew}
use Rattle.world_safety.proofs.Runs.{every_run_is_reached}

pub front_may : (c : Config) (front rest : List Answered) → AllMayHappen c (events_in (front ++ rest)) → AllMayHappen c (events_in front)
front_may c [] rest may = tt
front_may c (e ∷ front) rest may = (may.0, front_may c front rest may.1)

arises : (c : Config) (w : World) (s : Scene) → Mirrors c w s → (e : NodeEvent) → CanCome w e → Arises s e
arises c w s m Ticks k = tt
arises c w s m (Asks mask) k = tt
arises c w s m (Given p) k = m.sent p k
arises c w s m (Calls d) k = tt
arises c w s m Garbage k = tt

module _ (c : Config) (es : List Answered) (may : AllMayHappen c (events_in es)) where
  pub may_front : (front rest : List Answered) → es ≡ front ++ rest → AllMayHappen c (events_in front)
  may_front front rest e = front_may c front rest (subst (λ z. AllMayHappen c (events_in z)) e may)

  pub tails_at : AtEachMoment AllTailsHeld c es
  tails_at front rest e n s up =
      let run = every_run_is_reached c front (may_front front rest e) in
      subst (TailsHeld s) run.5 (tails_held c run.0 run.1 n s (run.4.cores n ∙ up))

  pub sends_at : AtEachMoment StepsSendFew c es
  sends_at front rest e n s up event can f =
      let run = every_run_is_reached c front (may_front front rest e) in
      runs_send c run.0 run.1 n s (run.4.cores n ∙ up) event (arises c (answered_after c front) run.0 run.4 event can) f
