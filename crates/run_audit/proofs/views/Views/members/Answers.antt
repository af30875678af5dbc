use Rattle.std.proofs.Common.{Some, sym, ◌∙◌, ap}
use Rattle.std.specs.Prelude.{option_copied}
use Rattle.run_audit.specs.Views.{members_in}
use Rattle.run_audit.proofs.ViewLaws.{members_are}
use Rattle.run_audit.proofs.views.Views.members.Goals as goal

pub returns-in-None : goal.returns-in-None
unfolding members_in
returns-in-None c =
    λ ls are. sym (members_are c.args.view c.view_key.result (option_copied c.first.result) c.args.self.now ls c.view_key.ensures c.first.ensures are ∙ ap members_in (ap option_copied c.in-None.is))

pub returns-in-Some : goal.returns-in-Some
unfolding members_in
returns-in-Some c =
    λ ls are. ap Some c.as_slice.ensures ∙ sym (members_are c.args.view c.view_key.result (option_copied c.first.result) c.args.self.now ls c.view_key.ensures c.first.ensures are ∙ ap members_in (ap option_copied c.in-Some.is))
