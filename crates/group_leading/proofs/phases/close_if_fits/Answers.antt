-- Where the entry fits, it closes the phase.
use Rattle.std.proofs.Common.{sym, ◌∙◌}
use Rattle.std.proofs.lemmas.Result.{on_ok_weaker}
use Rattle.entry_delivery.proofs.DoingLaws.{receive_nothing}
use Rattle.group_leading.proofs.CloseLaws.{closed_here, closed_nowhere}
use Rattle.group_leading.proofs.phases.close_if_fits.Goals as goal

pub returns-then-fits_at_end-clause-does : goal.returns-then-fits_at_end-clause-does
returns-then-fits_at_end-clause-does g c =
    on_ok_weaker c.close_with.result
    (λ closing. closed_here _ _ c.args.core.now c.close_with.new.core c.args.group.now c.args.entry.now _ (sym (rw c.bytes.ensures.value at c.fits_at_end.ensures) ∙ c.if-fits_at_end.true) closing) c.close_with.ensures.does

pub returns-clause-does : goal.returns-clause-does
returns-clause-does g c =
    closed_nowhere _ _ (receive_nothing _ _) c.args.core.now c.args.group.now c.args.entry.now _ (sym (rw c.bytes.ensures.value at c.fits_at_end.ensures) ∙ c.if-fits_at_end.false)
