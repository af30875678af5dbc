use Rattle.std.proofs.Common.{sym, ◌∙◌, ap}
use Rattle.std.specs.Prelude.{option_copied}
use Rattle.run_audit.specs.Table.{if_some, rows_cast}
use Rattle.run_audit.proofs.casts.Casts.closes_well.Goals as goal

pub returns-in-None : goal.returns-in-None
unfolding if_some
returns-in-None c = λ ls are keep. sym (ap (λ o. if_some (option_copied o) (λ x. rows_cast x ls)) c.in-None.is)

pub returns-in-Some : goal.returns-in-Some
unfolding if_some
returns-in-Some c = λ ls are keep. c.are_cast.ensures ls are keep ∙ sym (ap (λ o. if_some (option_copied o) (λ x. rows_cast x ls)) c.in-Some.is)
