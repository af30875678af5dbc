use Rattle.run_audit.proofs.BasedLaws.{base_line_is}
use Rattle.run_audit.proofs.based.Based.first_line.Goals as goal

pub returns : goal.returns
returns c = λ ls are. base_line_is c.args.view c.args.group.now c.in_ok-line.line c.args.self.now ls c.in_ok-line.ensures are
