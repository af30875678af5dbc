-- The parts are those of the answer.
use Rattle.view_core.specs.Steps.{view_stepped}
use Rattle.view_core.specs.Steps as steps
use Rattle.node_state.specs.Step.{view_rule}
use Rattle.node_core.proofs.view_packets.take_answer.Goals as goal

pub returns-clause-does : goal.returns-clause-does
unfolding view_rule view_stepped steps.view_rule
returns-clause-does g c = rw c.parts.ensures at c.take_view.ensures.does
