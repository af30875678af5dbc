-- The node's step is that of the call.
use Rattle.daemon_run.proofs.NodeLaws.{ends}
use Rattle.daemon_run.proofs.running.Running.say_goodbye.Goals as goal

pub returns-in-Ok-clause-does : goal.returns-in-Ok-clause-does
returns-in-Ok-clause-does g c = ends c.args.self.now c.say_goodbye.new.self c.args.client.now c.in-Ok.ensures.order c.in-Ok.ensures.scripts c.in-Ok.ensures.does
