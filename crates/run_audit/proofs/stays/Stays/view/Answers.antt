use Rattle.std.proofs.Common.{◌∙◌, ap}
use Rattle.run_audit.specs.Views.{view_in}
use Rattle.run_audit.proofs.stays.Stays.view.Goals as goal

pub returns : goal.returns
returns c = λ ls are. c.view_in.ensures ∙ (ap view_in c.last.ensures ∙ are c.args.node)
