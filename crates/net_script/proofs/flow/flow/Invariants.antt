use Rattle.std.proofs.Common.{◌-◌, ◌≤◌}
use Rattle.world_model.specs.Play.{flow_limit}
use Rattle.net_script.proofs.FlowLaws.{FlowsTo}
use Rattle.net_script.proofs.flow.flow.Given as goal

abbrev pub invariant-loop-i : goal.invariant-loop-i
invariant-loop-i g l =
    FlowsTo g.C.Callbacks.script g.C.Made.script_of g.C.Callbacks.stands_for l.kinds (g.K.Sink.held l.initial.out) (g.K.Sink.held l.out) l.initial.stage l.stage flow_limit (flow_limit - l._i)
    × (g.K.Sink.faults l.initial.out ≤ g.K.Sink.faults l.out)
