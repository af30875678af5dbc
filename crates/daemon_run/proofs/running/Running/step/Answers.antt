-- What the event left broke off.
use Rattle.std.proofs.Common.{None}
use Rattle.link_use.proofs.SendLaws.{on_err}
use Rattle.node_core.specs.Event.{event_in}
use Rattle.daemon_run.proofs.StepLaws.{step_broke}
use Rattle.daemon_run.proofs.running.Running.step.Goals as goal

pub returns-in_err-_refused-clause-broke : goal.returns-in_err-_refused-clause-broke
returns-in_err-_refused-clause-broke g c =
    on_err c.from_residual-in_err-_refused.result
    (step_broke None c.args.self.now c.happen.new.self _ _ (event_in c.args.event) c.in_ok-happen.ensures.does c.in_err-_refused.ensures.broke)
