use Rattle.std.proofs.Common.{◌≡◌, ◌-◌, arith}
use Rattle.net_script.proofs.StageLaws.{leads_stopped}
use Rattle.net_script.proofs.RoundLaws.{rounds_begin, round_next, round_stops, round_stops_flowing, rounds_end}
use Rattle.net_script.proofs.rounds.run.Goals as goal

pub loop-i-init : goal.loop-i-init
loop-i-init g c = let whole : c.args.count - 0 ≡ c.args.count = omega arith in (rounds_begin c.args.kinds _ c.args.stage.now c.args.count _ whole, omega arith)

pub returns-in_err-tick_all-clause-outcome : goal.returns-in_err-tick_all-clause-outcome
returns-in_err-tick_all-clause-outcome g c p v h =
    leads_stopped g.C.Callbacks.script g.C.Made.script_of g.C.Callbacks.stands_for c.from_residual.result c.in_err-tick_all.field-0.0 c.args.kinds _ _ c.args.stage.now _ p _ v c.from_residual.ensures
    (round_stops c.in_err-tick_all.field-0.0 c.args.kinds _ _ _ c.args.stage.now c.loop-i.stage _ c.args.count c.loop-i._i c.loop-i-test.true c.loop-i.invariant.0 c.in_err-tick_all.ensures.outcome p v h)

pub returns-in_err-flow-clause-outcome : goal.returns-in_err-flow-clause-outcome
returns-in_err-flow-clause-outcome g c p v h =
    leads_stopped g.C.Callbacks.script g.C.Made.script_of g.C.Callbacks.stands_for c.from_residual-in_err-flow.result c.in_err-flow.field-0.0 c.args.kinds _ _ c.args.stage.now _ p _ v c.from_residual-in_err-flow.ensures
    (round_stops_flowing c.in_err-flow.field-0.0 c.args.kinds _ _ _ _ c.args.stage.now c.loop-i.stage c.tick_all.new.stage _ c.args.count c.loop-i._i c.loop-i-test.true c.loop-i.invariant.0 c.in_ok-tick_all.ensures.outcome c.in_err-flow.ensures.outcome p v h)

pub loop-i-preserved : goal.loop-i-preserved
loop-i-preserved g c =
    (round_next c.args.kinds _ _ _ _ c.args.stage.now c.loop-i.stage c.tick_all.new.stage c.flow.new.stage c.args.count c.loop-i._i c.loop-i-test.true c.loop-i.invariant.0 c.in_ok-tick_all.ensures.outcome c.in_ok-flow.ensures.outcome, omega (arith, c.loop-i.invariant.1, c.tick_all.ensures.later, c.flow.ensures.later))

pub returns-clause-outcome : goal.returns-clause-outcome
returns-clause-outcome g c = rounds_end tt c.args.kinds _ _ c.args.stage.now c.loop-i.stage c.args.count c.loop-i._i c.loop-i-test.false c.loop-i.invariant.0
