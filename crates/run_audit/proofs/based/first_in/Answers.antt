use Rattle.std.proofs.Common.{sym, ◌∙◌, ap}
use Rattle.std.specs.Option.{option_map}
use Rattle.run_audit.specs.Based.{entered_first}
use Rattle.run_audit.proofs.based.first_in.Goals as goal

pub returns-in-None : goal.returns-in-None
unfolding entered_first
returns-in-None c = λ ls are. ap (λ o. entered_first o ls) (sym c.in-None.is)

pub returns-in-Some : goal.returns-in-Some
unfolding entered_first
returns-in-Some c = λ ls are. c.entered.ensures ∙ (ap (λ f. option_map (λ m. (c.in-Some.view, m)) f) (c.first_node.ensures ls are) ∙ ap (λ o. entered_first o ls) (sym c.in-Some.is))
