-- Where the entry fits, it is appended.
use Rattle.std.proofs.Common.{sym, ◌∙◌}
use Rattle.std.proofs.lemmas.Result.{on_ok_weaker}
use Rattle.entry_delivery.proofs.DoingLaws.{receive_nothing}
use Rattle.group_leading.proofs.LeadLaws.{appended_where, appended_nowhere}
use Rattle.group_leading.proofs.entries.append_if_fits.Goals as goal

pub returns-then-fits_at_end-clause-does : goal.returns-then-fits_at_end-clause-does
returns-then-fits_at_end-clause-does g c =
    on_ok_weaker c.append.result
    (λ appending. appended_where _ _ c.args.core.now c.append.new.core c.args.group.now c.args.entry.now _ (sym (rw c.bytes.ensures.value at c.fits_at_end.ensures) ∙ c.if-fits_at_end.true) appending) c.append.ensures.does

pub returns-clause-does : goal.returns-clause-does
returns-clause-does g c =
    appended_nowhere _ _ (receive_nothing _ _) c.args.core.now c.args.group.now c.args.entry.now _ (sym (rw c.bytes.ensures.value at c.fits_at_end.ensures) ∙ c.if-fits_at_end.false)
