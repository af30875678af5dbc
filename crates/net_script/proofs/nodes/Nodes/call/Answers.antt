-- The node at its place is called.
use Rattle.std.proofs.Common.{List, Some, ap, set, subst, ◌∙◌}
use Rattle.rsct_packet.specs.Search.{place_where}
use Rattle.node_state.specs.Step.{Calls}
use Rattle.node_core.specs.Node.{NodeView}
use Rattle.world_model.specs.World.{scripts_after}
use Rattle.net_script.specs.Standing.{is_me, with_scripts, StepsIn}
use Rattle.net_script.specs.Hearing.{NodesHear}
use Rattle.net_script.proofs.HearLaws.{hears_by}
use Rattle.net_script.proofs.CallLaws.{call_at}
use Rattle.net_script.proofs.nodes.Nodes.call.Goals as goal

pub returns-in_ok-call_node-in-Some-clause-steps : goal.returns-in_ok-call_node-in-Some-clause-steps
returns-in_ok-call_node-in-Some-clause-steps g c =
    subst (λ (ns : List (NodeView g.row.C.Denot)). StepsIn g.C.Callbacks.script g.C.Made.script_of ns (set c.self.inside.rows.items c.in-Some.i c.call_node.new.node) c.args.node (Some c.in_ok-call_node-in-Some.field-0) (with_scripts c.args.call.now) (Calls c.args.call.now)) c.self.view_is
    (call_at c.self.inside.rows.items c.args.node c.in-Some.i c.index_mut.result.now c.call_node.new.node c.in_ok-call_node-in-Some.field-0 c.args.call.now
    (c.in-Some.ensures.value ∙ ap (place_where (is_me c.args.node)) c.as_slice.ensures.value) c.index_mut.ensures.value c.in_ok-call_node-in-Some.ensures.done)

pub returns-in_ok-call_node-in-Some-clause-hears : goal.returns-in_ok-call_node-in-Some-clause-hears
returns-in_ok-call_node-in-Some-clause-hears g c =
    subst (λ (ns : List (NodeView g.row.C.Denot)). NodesHear g.C.Callbacks.stands_for g.C.Callbacks.script g.C.Made.script_of ns (set c.self.inside.rows.items c.in-Some.i c.call_node.new.node) c.args.node (Some c.in_ok-call_node-in-Some.field-0) (Calls c.args.call.now)) c.self.view_is
    (hears_by g.C.Callbacks.stands_for g.C.Callbacks.script g.C.Made.script_of c.in_ok-call_node-in-Some.ensures.done.0 (λ x. scripts_after c.args.call.now x.core x.scripts) c.self.inside.rows.items c.args.node c.in-Some.i c.index_mut.result.now c.call_node.new.node c.in_ok-call_node-in-Some.field-0 (Calls c.args.call.now)
    (c.in-Some.ensures.value ∙ ap (place_where (is_me c.args.node)) c.as_slice.ensures.value) c.index_mut.ensures.value c.in_ok-call_node-in-Some.ensures.done.1 c.in_ok-call_node-in-Some.ensures.hears)
