-- The step is done, and what it left is taken.
use Rattle.std.proofs.lemmas.Result.{IfOk-weaker}
use Rattle.node_core.specs.Event.{event_in}
use Rattle.net_script.proofs.HandLaws.{taken_within, hears_within}
use Rattle.net_script.proofs.StepLaws.{step_done}
use Rattle.net_script.proofs.steps.step_node.Goals as goal

pub returns-in-Ok-clause-steps : goal.returns-in-Ok-clause-steps
returns-in-Ok-clause-steps g c =
    IfOk-weaker c.take_left.result _ _
    (λ l left. step_done {script = g.C.Callbacks.script} {said = g.C.Made.script_of} c.scripted_clients_fill_their_scripts.ensures c.args.node.now c.step.new.self c.take_left.new.node l _ (event_in c.args.event) (taken_within c.args.event c.requires.taken) c.in-Ok.ensures.scripts c.in-Ok.ensures.does left)
    (rw c.core.ensures at c.take_left.ensures)

pub returns-in-Ok-clause-hears : goal.returns-in-Ok-clause-hears
returns-in-Ok-clause-hears g c =
    IfOk-weaker c.take_left.result _ _
    (λ l left. hears_within g.C.Callbacks.stands_for c.args.node.now c.step.new.self c.take_left.new.node l (event_in c.args.event) _ _ _ c.in-Ok.ensures.order (taken_within c.args.event c.requires.taken) c.in-Ok.ensures.does left)
    (rw c.core.ensures at c.take_left.ensures)
