-- An event of a node that lets go what was left of an earlier step.
use Rattle.node_state.specs.Step.{stepped}
use Rattle.node_core.proofs.events.take_event.Goals as goal

pub returns-clause-does : goal.returns-clause-does
unfolding stepped
returns-clause-does g c = rw c.clear.ensures at c.take_cleared.ensures.does
