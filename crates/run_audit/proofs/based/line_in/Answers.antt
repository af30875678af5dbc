use Rattle.std.proofs.Common.{sym, ◌∙◌, ap}
use Rattle.run_audit.specs.Table.{first_in_of}
use Rattle.run_audit.proofs.based.line_in.Goals as goal

pub returns-in-None : goal.returns-in-None
unfolding first_in_of
returns-in-None c = λ ls are. ap (λ o. first_in_of o ls) (sym c.in-None.is)

pub returns-in-Some : goal.returns-in-Some
unfolding first_in_of
returns-in-Some c = λ ls are. c.first_line.ensures ls are ∙ ap (λ o. first_in_of o ls) (sym c.in-Some.is)
