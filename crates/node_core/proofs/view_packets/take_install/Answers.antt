-- It is the install that was read.
use Rattle.view_core.specs.Steps.{view_stepped}
use Rattle.view_core.specs.Steps as steps
use Rattle.node_state.specs.Step.{view_rule}
use Rattle.node_core.proofs.view_packets.take_install.Goals as goal

pub returns-clause-does : goal.returns-clause-does
unfolding view_rule view_stepped steps.view_rule
returns-clause-does g c = rw c.in_ok-install.ensures at c.take_view.ensures.does
