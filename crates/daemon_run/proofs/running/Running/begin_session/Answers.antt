-- The node's step is that of a call with any node, and its client is the one that is given, or none of the objects.
use Rattle.daemon_run.proofs.NodeLaws.{begins, begins_plain}
use Rattle.daemon_run.proofs.running.Running.begin_session.Goals as goal

pub returns-in-Ok-clause-does : goal.returns-in-Ok-clause-does
returns-in-Ok-clause-does g c = λ node.
    begins c.args.self.now c.begin_session.new.self node c.args.name.now c.args.votes.now (record { client = c.in_ok-client.client }) c.in_ok-client.ensures.gives c.in_ok-client.ensures.votes c.in-Ok.ensures.order c.in-Ok.ensures.scripts (c.in-Ok.ensures.does node c.args.votes.now)

pub returns-in-Ok-clause-plain : goal.returns-in-Ok-clause-plain
returns-in-Ok-clause-plain g c = λ plain node.
    begins_plain c.args.self.now c.begin_session.new.self node c.args.name.now c.args.votes.now (record { client = c.in_ok-client.client }) plain (c.in_ok-client.ensures.plain plain) c.in_ok-client.ensures.votes c.in-Ok.ensures.order c.in-Ok.ensures.scripts (c.in-Ok.ensures.does node c.args.votes.now)
