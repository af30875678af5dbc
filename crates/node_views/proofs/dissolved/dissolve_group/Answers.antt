-- The members, and then the running joiners.
use Rattle.std.proofs.lemmas.Result.{on_ok_weaker}
use Rattle.entry_delivery.proofs.DoingLaws.{receive_nothing, receive_then}
use Rattle.node_views.proofs.SideLaws.{unheld_does, list_does}
use Rattle.node_views.proofs.dissolved.dissolve_group.Goals as goal

pub returns-in-None-clause-does : goal.returns-in-None-clause-does
returns-in-None-clause-does g c = unheld_does _ _ (receive_nothing _ _) c.args.old c.args.bases.now c.args.core.now c.args.row.now c.in-None.is

pub returns-in_ok-dissolve_each-in-Some-clause-does : goal.returns-in_ok-dissolve_each-in-Some-clause-does
returns-in_ok-dissolve_each-in-Some-clause-does g c =
    on_ok_weaker c.dissolve_each-in-Some.result
    (λ next. list_does _ _ _ _ (receive_then _ _ _ _) c.args.old c.args.bases.now c.args.core.now c.dissolve_each.new.core c.dissolve_each-in-Some.new.core c.args.row.now c.in-Some.list _ c.in-Some.is (rw c.bytes.ensures.value at c.base_named-base.ensures)
    (rw (c.as_slice.ensures.value, c.state-state.ensures.value) at c.in_ok-dissolve_each-in-Some.ensures.does) (rw (c.joiners.ensures.value, c.state-state.ensures.value) at next))
    (rw c.in_ok-dissolve_each-in-Some.ensures.scripts at c.dissolve_each-in-Some.ensures.does)
