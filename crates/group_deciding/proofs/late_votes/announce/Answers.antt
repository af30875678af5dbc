-- With no such entry nothing happens; else it is appended where it fits.
use Rattle.std.proofs.Common.{sym, ◌∙◌}
use Rattle.std.proofs.lemmas.Result.{on_ok_weaker}
use Rattle.entry_delivery.proofs.DoingLaws.{receive_nothing}
use Rattle.group_deciding.proofs.TickLaws.{announced_none, announced_some}
use Rattle.group_deciding.proofs.late_votes.announce.Goals as goal

pub returns-in-None-clause-does : goal.returns-in-None-clause-does
returns-in-None-clause-does g c = announced_none _ _ (receive_nothing _ _) c.args.core.now c.args.group.now _ (sym c.in-None.is ∙ c.in_ok-late_entry.ensures)

pub returns-in-Some-clause-does : goal.returns-in-Some-clause-does
returns-in-Some-clause-does g c =
    on_ok_weaker c.append_if_fits.result
    (λ done. announced_some _ _ c.args.core.now c.append_if_fits.new.core c.args.group.now _ c.in-Some.e (sym c.in-Some.is ∙ c.in_ok-late_entry.ensures) done)
    c.append_if_fits.ensures.does
