use Rattle.run_audit.proofs.OpenLaws.{open_line_found}
use Rattle.run_audit.proofs.openings.Openings.line.Goals as goal

pub returns : goal.returns
returns c = λ ls are. open_line_found c.args.node c.args.view c.args.group.now c.in_ok-last.last c.open_line.result c.args.self.now ls c.in_ok-last.ensures c.open_line.ensures are
