use Rattle.std.proofs.Common.{sym, ◌∙◌, ap}
use Rattle.run_audit.specs.Starts.{inc_in}
use Rattle.run_audit.proofs.StartLaws.{inc_is}
use Rattle.run_audit.proofs.starts.Starts.inc.Goals as goal

pub returns-in-None : goal.returns-in-None
unfolding inc_in
returns-in-None c = λ ls are. sym (inc_is c.args.node c.args.self.now ls are ∙ ap inc_in (sym c.last.ensures ∙ c.in-None.is))

pub returns-in-Some : goal.returns-in-Some
unfolding inc_in
returns-in-Some c = λ ls are. sym (inc_is c.args.node c.args.self.now ls are ∙ ap inc_in (sym c.last.ensures ∙ c.in-Some.is))
