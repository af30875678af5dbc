-- The node's step is that of the event.
use Rattle.daemon_run.proofs.NodeLaws.{happened}
use Rattle.daemon_run.proofs.running.Running.happen.Goals as goal

pub returns-in-Ok-clause-does : goal.returns-in-Ok-clause-does
returns-in-Ok-clause-does g c = happened c.args.self.now c.step.new.self c.args.event c.requires.taken c.in-Ok.ensures.order c.in-Ok.ensures.scripts c.in-Ok.ensures.does
