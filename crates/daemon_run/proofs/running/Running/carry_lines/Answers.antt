-- No line yet, or one broke off.
use Rattle.std.proofs.Common.{refl, rules}
use Rattle.daemon_model.specs.Daemon.{own_calls}
use Rattle.daemon_run.specs.Calling.{CallsBreak}
use Rattle.daemon_run.proofs.CallLaws.{lines_begin, lines_broke, lines_fail}
use Rattle.daemon_run.proofs.FailLaws.{unwritten_by}
use Rattle.daemon_run.proofs.running.Running.carry_lines.Goals as goal

pub loop-line-init : goal.loop-line-init
loop-line-init g c = record {
  done = lines_begin c.args.self.now _ c.args.lines.now _;
  same = (refl, refl);
}

pub returns-in_err-carry_line-clause-broke : goal.returns-in_err-carry_line-clause-broke
returns-in_err-carry_line-clause-broke g c =
    let h : CallsBreak c.args.self.now (own_calls c.args.self.now.outbox.me c.args.lines.now) (g.O.Outside.told c.args.outside.now) (g.O.Outside.told c.carry_line.new.outside)
    = lines_broke c.args.self.now c.loop-line.self _ _ c.loop-line.line-index c.line-item.result c.args.lines.now _ _ _ c.loop-line-test.true c.line-item.is c.loop-line.invariant.same.0 c.loop-line.invariant.done c.in_err-carry_line.ensures.broke in
    search rules

pub returns-in_err-carry_line-clause-unwritten :
    goal.returns-in_err-carry_line-clause-unwritten
returns-in_err-carry_line-clause-unwritten g c =
    unwritten_by c.from_residual.result _ c.from_residual.ensures
    (λ e. lines_fail c.args.self.now c.loop-line.self c.carry_line.new.self _ _ c.loop-line.line-index c.line-item.result c.args.lines.now _ _ _ c.loop-line-test.true c.line-item.is c.loop-line.invariant.same.0 c.loop-line.invariant.done (c.in_err-carry_line.ensures.unwritten e))
