use Rattle.std.proofs.Common.{◌≡◌, Some, None, sym, ◌∙◌, arith}
use Rattle.world_model.specs.Play.{flow_limit}
use Rattle.world_packets.specs.Packets.{first_of}
use Rattle.net_script.proofs.StageLaws.{leads_stopped}
use Rattle.net_script.proofs.FlowLaws.{flow_begins, flow_next, flow_stops, flow_over, flow_ends}
use Rattle.net_script.proofs.flow.flow.Goals as goal

pub loop-i-init : goal.loop-i-init
loop-i-init g c = (flow_begins c.args.kinds _ c.args.stage.now flow_limit, omega arith)

pub returns-in_default-clause-outcome : goal.returns-in_default-clause-outcome
returns-in_default-clause-outcome g c =
    let none : first_of c.loop-i.stage.world.packets.waiting ≡ None = sym c.first.ensures ∙ c.in_default.is in
    flow_over tt c.args.kinds _ _ c.args.stage.now c.loop-i.stage flow_limit _ c.loop-i.invariant.0 none

pub returns-in_err-pass-clause-outcome : goal.returns-in_err-pass-clause-outcome
returns-in_err-pass-clause-outcome g c p v h =
    let some : first_of c.loop-i.stage.world.packets.waiting ≡ Some c.in-Some.x = sym c.first.ensures ∙ c.in-Some.is in
    leads_stopped g.C.Callbacks.script g.C.Made.script_of g.C.Callbacks.stands_for c.from_residual.result c.in_err-pass.field-0.0 c.args.kinds _ _ c.args.stage.now _ p _ v c.from_residual.ensures
    (flow_stops c.in_err-pass.field-0.0 c.args.kinds _ _ _ c.args.stage.now c.loop-i.stage _ c.in-Some.x flow_limit c.loop-i._i c.loop-i-test.true c.loop-i.invariant.0 some c.in_err-pass.ensures.outcome p v h)

pub loop-i-preserved : goal.loop-i-preserved
loop-i-preserved g c =
    let some : first_of c.loop-i.stage.world.packets.waiting ≡ Some c.in-Some.x = sym c.first.ensures ∙ c.in-Some.is in
    (flow_next c.args.kinds _ _ _ c.args.stage.now c.loop-i.stage c.pass.new.stage c.in-Some.x flow_limit c.loop-i._i c.loop-i-test.true c.loop-i.invariant.0 some c.in_ok-pass.ensures.outcome, omega (arith, c.loop-i.invariant.1, c.pass.ensures.later))

pub returns-clause-outcome : goal.returns-clause-outcome
returns-clause-outcome g c = flow_ends tt c.args.kinds _ _ c.args.stage.now c.loop-i.stage flow_limit c.loop-i._i c.loop-i-test.false c.loop-i.invariant.0
