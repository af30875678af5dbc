use Rattle.run_audit.proofs.BasedLaws.{own_line_is}
use Rattle.run_audit.proofs.based.Based.own_line.Goals as goal

pub returns : goal.returns
returns c = λ ls are. own_line_is c.args.node c.args.view c.args.group.now c.in_ok-line.line c.args.self.now ls c.in_ok-line.ensures are
