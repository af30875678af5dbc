-- By the phases.
use Rattle.node_state.specs.Leading.{begins}
use Rattle.group_leading.proofs.protocols.begin.Goals as goal

pub returns-in-One-clause-does : goal.returns-in-One-clause-does
unfolding begins
returns-in-One-clause-does g c = rw c.in-One.is c.begin_once.ensures.does

pub returns-in-Many-clause-does : goal.returns-in-Many-clause-does
unfolding begins
returns-in-Many-clause-does g c = rw c.in-Many.is c.begin_many.ensures.does
