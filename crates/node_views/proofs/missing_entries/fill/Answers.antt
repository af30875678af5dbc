-- Nothing is put where a list does not go on to the install.
use Rattle.entry_delivery.proofs.DoingLaws.{receive_nothing}
use Rattle.node_views.proofs.WorkLaws.{nothing_filled}
use Rattle.node_views.proofs.missing_entries.fill.Goals as goal

pub returns-in-None-clause-does : goal.returns-in-None-clause-does
returns-in-None-clause-does g c = nothing_filled _ _ (receive_nothing _ _) c.args.core.now _ (rw c.in-None.is at c.in_ok-all_missing.ensures)

pub returns-in_ok-fill_lists-in-Some-clause-does : goal.returns-in_ok-fill_lists-in-Some-clause-does
returns-in_ok-fill_lists-in-Some-clause-does g c = rw (← (rw c.in-Some.is at c.in_ok-all_missing.ensures)) (rw c.as_slice.ensures.value at c.in_ok-fill_lists-in-Some.ensures.does)
