-- There is an entry that closes the phase, or none.
use Rattle.std.proofs.Common.{sym, ◌∙◌}
use Rattle.std.proofs.lemmas.Result.{on_ok_weaker}
use Rattle.entry_delivery.proofs.DoingLaws.{receive_nothing}
use Rattle.group_leading.proofs.CloseLaws.{closed_none, closed_some, goes_nowhere, goes_there}
use Rattle.group_leading.proofs.phases.close_one.Goals as goal

pub returns-in-None-clause-next : goal.returns-in-None-clause-next
returns-in-None-clause-next g c = goes_nowhere c.args.core.now c.args.group.now _ (sym c.in-None.is ∙ c.in_ok-next_closing.ensures)

pub returns-in-None-clause-does : goal.returns-in-None-clause-does
returns-in-None-clause-does g c = closed_none _ _ (receive_nothing _ _) c.args.core.now c.args.group.now _ (sym c.in-None.is ∙ c.in_ok-next_closing.ensures)

pub returns-in-Some-clause-next : goal.returns-in-Some-clause-next
returns-in-Some-clause-next g c =
    rw (← (goes_there c.args.core.now c.args.group.now c.in-Some.e _ (sym c.in-Some.is ∙ c.in_ok-next_closing.ensures))) c.close_if_fits.ensures.next

pub returns-in-Some-clause-does : goal.returns-in-Some-clause-does
returns-in-Some-clause-does g c =
    on_ok_weaker c.close_if_fits.result
    (λ closing. closed_some _ _ c.args.core.now c.close_if_fits.new.core c.args.group.now c.in-Some.e _ (sym c.in-Some.is ∙ c.in_ok-next_closing.ensures) closing) c.close_if_fits.ensures.does
