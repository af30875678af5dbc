-- Where the entry fits, it opens the first phase.
use Rattle.std.proofs.Common.{sym, ◌∙◌}
use Rattle.std.proofs.lemmas.Result.{on_ok_weaker}
use Rattle.entry_delivery.proofs.DoingLaws.{receive_nothing}
use Rattle.group_leading.proofs.CloseLaws.{begun_where, begun_nowhere}
use Rattle.group_leading.proofs.protocols.open_if_fits.Goals as goal

pub returns-then-fits_at_end-clause-does : goal.returns-then-fits_at_end-clause-does
returns-then-fits_at_end-clause-does g c x is =
    on_ok_weaker c.open_phase.result
    (λ opening. begun_where _ _ c.args.core.now c.open_phase.new.core c.args.group.now x _ (sym (rw (c.bytes.ensures.value, is) at c.fits_at_end.ensures) ∙ c.if-fits_at_end.true) opening)
    (rw is at c.open_phase.ensures.does)

pub returns-clause-does : goal.returns-clause-does
returns-clause-does g c x is =
    begun_nowhere _ _ (receive_nothing _ _) c.args.core.now c.args.group.now x _ (sym (rw (c.bytes.ensures.value, is) at c.fits_at_end.ensures) ∙ c.if-fits_at_end.false)
