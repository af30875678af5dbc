use Rattle.std.proofs.Common.{arith}
use Rattle.world_model.specs.declared.script.Line.{Line}
use Rattle.world_laws.specs.world_answers.Plays.{PlaysLine}
use Rattle.net_script.proofs.LineLaws.{lines_playable}
use Rattle.net_script.proofs.StageLaws.{leads_stopped}
use Rattle.net_script.proofs.ListLaws.{list_begins, list_next, list_stops, list_ends}
use Rattle.net_script.proofs.lines.play_lines.Goals as goal

pub loop-line-init : goal.loop-line-init
loop-line-init g c = (list_begins c.args.kinds _ c.args.stage.now Line (PlaysLine g.C.Made.script_of) c.args.lines.now, omega arith)

pub returns-in_err-play_line-clause-outcome : goal.returns-in_err-play_line-clause-outcome
returns-in_err-play_line-clause-outcome g c p v h =
    leads_stopped g.C.Callbacks.script g.C.Made.script_of g.C.Callbacks.stands_for c.from_residual.result c.in_err-play_line.field-0.0 c.args.kinds _ _ c.args.stage.now _ p _ v c.from_residual.ensures
    (list_stops c.in_err-play_line.field-0.0 c.args.kinds _ _ _ c.args.stage.now c.loop-line.stage _ Line (PlaysLine g.C.Made.script_of) c.line-item.result c.args.lines.now c.loop-line.line-index (lines_playable g.C.Made.script_of) c.loop-line-test.true c.line-item.is c.loop-line.invariant.0 c.in_err-play_line.ensures.outcome p v h)

pub loop-line-preserved : goal.loop-line-preserved
loop-line-preserved g c =
    (list_next c.args.kinds _ _ _ c.args.stage.now c.loop-line.stage c.play_line.new.stage Line (PlaysLine g.C.Made.script_of) c.line-item.result c.args.lines.now c.loop-line.line-index c.loop-line-test.true c.line-item.is c.loop-line.invariant.0 c.in_ok-play_line.ensures.outcome, omega (arith, c.loop-line.invariant.1, c.play_line.ensures.later))

pub returns-clause-outcome : goal.returns-clause-outcome
returns-clause-outcome g c = list_ends tt c.args.kinds _ _ c.args.stage.now c.loop-line.stage Line (PlaysLine g.C.Made.script_of) c.args.lines.now c.loop-line.line-index c.loop-line-test.false c.loop-line.invariant.0
