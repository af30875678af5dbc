-- The order is for the reach of its own node.
use Rattle.std.proofs.Common.{ap, ◌∙◌}
use Rattle.node_reach.specs.Reach.{reach_of}
use Rattle.node_state.specs.declared.state.Core.{Core}
use Rattle.daemon_run.proofs.KeepLaws.{asked_done}
use Rattle.daemon_run.proofs.running.Running.mend.Goals as goal

pub returns-clause-done : goal.returns-clause-done
returns-clause-done g c =
    asked_done c.args.self.now c.step.new.self c.reach-reach.result _ _ _ (c.reach-reach.ensures.value ∙ ap (λ (s : Core). reach_of s.reach) c.core.ensures) c.in_ok-step.ensures.done
