use Rattle.std.proofs.Common.{sym, ◌∙◌, ap}
use Rattle.std.specs.Prelude.{option_copied}
use Rattle.run_audit.specs.Views.{line_of}
use Rattle.run_audit.proofs.ViewLaws.{line_is}
use Rattle.run_audit.proofs.views.Views.first_line.Goals as goal

pub returns-in-None : goal.returns-in-None
unfolding line_of
returns-in-None c =
    λ ls are. sym (line_is c.args.view c.view_key.result (option_copied c.first.result) c.args.self.now ls c.view_key.ensures c.first.ensures are ∙ ap line_of (ap option_copied c.in-None.is))

pub returns-in-Some : goal.returns-in-Some
unfolding line_of
returns-in-Some c =
    λ ls are. sym (line_is c.args.view c.view_key.result (option_copied c.first.result) c.args.self.now ls c.view_key.ensures c.first.ensures are ∙ ap line_of (ap option_copied c.in-Some.is))
