-- The node at its place steps.
use Rattle.std.proofs.Common.{List, Some, ap, set, subst, ◌∙◌}
use Rattle.rsct_packet.specs.Search.{place_where}
use Rattle.node_core.specs.Event.{event_in}
use Rattle.node_core.specs.Node.{NodeView}
use Rattle.net_script.specs.Standing.{is_me, StepsIn}
use Rattle.net_script.specs.Hearing.{NodesHear}
use Rattle.net_script.proofs.HearLaws.{hears_by}
use Rattle.net_script.proofs.NodeLaws.{steps_at}
use Rattle.net_script.proofs.nodes.Nodes.step.Goals as goal

pub returns-in_ok-step_node-in-Some-clause-steps : goal.returns-in_ok-step_node-in-Some-clause-steps
returns-in_ok-step_node-in-Some-clause-steps g c =
    subst (λ (ns : List (NodeView g.row.C.Denot)). StepsIn g.C.Callbacks.script g.C.Made.script_of ns (set c.self.inside.rows.items c.in-Some.i c.step_node.new.node) c.args.node (Some c.in_ok-step_node-in-Some.field-0) (λ x. x) (event_in c.args.event)) c.self.view_is
    (steps_at g.C.Callbacks.script g.C.Made.script_of c.self.inside.rows.items c.args.node c.in-Some.i c.index_mut.result.now c.step_node.new.node c.in_ok-step_node-in-Some.field-0 (event_in c.args.event)
    (c.in-Some.ensures.value ∙ ap (place_where (is_me c.args.node)) c.as_slice.ensures.value) c.index_mut.ensures.value c.in_ok-step_node-in-Some.ensures.steps)

pub returns-in_ok-step_node-in-Some-clause-hears : goal.returns-in_ok-step_node-in-Some-clause-hears
returns-in_ok-step_node-in-Some-clause-hears g c =
    subst (λ (ns : List (NodeView g.row.C.Denot)). NodesHear g.C.Callbacks.stands_for g.C.Callbacks.script g.C.Made.script_of ns (set c.self.inside.rows.items c.in-Some.i c.step_node.new.node) c.args.node (Some c.in_ok-step_node-in-Some.field-0) (event_in c.args.event)) c.self.view_is
    (hears_by g.C.Callbacks.stands_for g.C.Callbacks.script g.C.Made.script_of c.in_ok-step_node-in-Some.ensures.steps.0 (λ x. x.scripts) c.self.inside.rows.items c.args.node c.in-Some.i c.index_mut.result.now c.step_node.new.node c.in_ok-step_node-in-Some.field-0 (event_in c.args.event)
    (c.in-Some.ensures.value ∙ ap (place_where (is_me c.args.node)) c.as_slice.ensures.value) c.index_mut.ensures.value c.in_ok-step_node-in-Some.ensures.steps.1 c.in_ok-step_node-in-Some.ensures.hears)
