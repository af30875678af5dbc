use Rattle.std.proofs.Common.{sym, ◌∙◌, ap}
use Rattle.std.specs.Prelude.{option_copied}
use Rattle.run_audit.specs.Views.{node_in}
use Rattle.run_audit.proofs.ViewLaws.{node_is}
use Rattle.run_audit.proofs.views.Views.first_node.Goals as goal

pub returns-in-None : goal.returns-in-None
unfolding node_in
returns-in-None c =
    λ ls are. sym (node_is c.args.view c.view_key.result (option_copied c.first.result) c.args.self.now ls c.view_key.ensures c.first.ensures are ∙ ap node_in (ap option_copied c.in-None.is))

pub returns-in-Some : goal.returns-in-Some
unfolding node_in
returns-in-Some c =
    λ ls are. sym (node_is c.args.view c.view_key.result (option_copied c.first.result) c.args.self.now ls c.view_key.ensures c.first.ensures are ∙ ap node_in (ap option_copied c.in-Some.is))
