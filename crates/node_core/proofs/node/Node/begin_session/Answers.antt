-- What the node was before, part by part; and how many packets it sends.
use Rattle.node_core.proofs.node.Node.begin_session.Goals as goal
use Rattle.node_core.proofs.SendLaws.{does_few}

pub returns-in-Ok-clause-does : goal.returns-in-Ok-clause-does
returns-in-Ok-clause-does g c = rw (← c.self.view_is) c.in-Ok.ensures.does

pub returns-in-Ok-clause-sends : goal.returns-in-Ok-clause-sends
returns-in-Ok-clause-sends g c = rw (← c.self.view_is) (λ node votes. does_few _ _ _ _ _ _ (c.in-Ok.ensures.does node votes))
