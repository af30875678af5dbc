-- In which incarnation each node is: the records of the events that lead to a scene say it.
use Rattle.std.proofs.Common.{◌≡◌, ℕ, ◌+◌, ◌++◌, refl, ap, ◌∙◌}
use Rattle.node_state.specs.declared.config.Config.{Config}
use Rattle.node_state.specs.Step.{at_work, stepped}
use Rattle.run_safety.specs.Past.{records_of, inc_now}
use Rattle.step_refinement.specs.Tied.{Scene}
use Rattle.step_refinement.specs.Runs.{Reached}
use Rattle.run_induction.proofs.Idle.{inc_elsewhere, came_inc}
use Rattle.run_induction.proofs.Ran.{anyhow, ran_reached, reached_ran}
use Rattle.run_induction.proofs.Laws.{Claim, Law, ran_holds}
use Rattle.row_laws.proofs.hearing.Listening.{steps_change}
use Rattle.row_laws.proofs.hearing.Added.{does_incs}

abbrev numbered : Claim
numbered = record { sent = λ h x. Unit {0}; node = λ m inc ps h o. inc_now m (records_of h) ≡ inc; lines = λ h. Unit {0} }

incs_law : (c : Config) → Law anyhow c numbered
incs_law c =
    record {
      waits = λ m. refl;
      none = tt;
      sent_on = λ e h x k. tt;
      stays = λ w e t o m all k. inc_elsewhere m e.records (records_of w.before) all ∙ k;
      comes = λ w e t o m came down k. came_inc c m (w.incs m + 1) e.records came (records_of w.before);
      goes = λ w e t o m s down up k. ap (λ rs. inc_now m (rs ++ records_of w.before)) down ∙ k;
      lines_on = λ w e t o k. tt;
      steps = λ w n f s e v r next up arises told k. record { sends = λ x i. tt; node = does_incs n w.before (at_work s) (stepped f s e) (steps_change c w (ran_reached anyhow c w r) n s up f e) ∙ k.nodes n; others = λ m ne a. does_incs m w.before (at_work s) (stepped f s e) (steps_change c w (ran_reached anyhow c w r) n s up f e) ∙ a; lines = tt };
    }

-- the records say of each node in which incarnation it was started last
pub incs_of : (c : Config) (w : Scene) → Reached c w → (m : ℕ) → inc_now m (records_of w.before) ≡ w.incs m
incs_of c w k m = (ran_holds anyhow c numbered (incs_law c) w (reached_ran c w k)).nodes m
