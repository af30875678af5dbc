-- The lists go on to the install, or nothing is done.
use Rattle.std.proofs.lemmas.Result.{on_ok_weaker}
use Rattle.entry_delivery.proofs.DoingLaws.{receive_then}
use Rattle.node_views.proofs.WorkLaws.{stays_does, applied_does}
use Rattle.node_views.proofs.entry.apply.Goals as goal

pub returns-then-not-branch-clause-does : goal.returns-then-not-branch-clause-does
returns-then-not-branch-clause-does g c = stays_does _ _ c.args.core.now c.fill.new.core c.args.install c.in_ok-fill.field-0 c.in_ok-fill.ensures.goes c.if-not-branch.true c.in_ok-fill.ensures.does

pub returns-clause-does : goal.returns-clause-does
returns-clause-does g c =
    on_ok_weaker c.enter.result
    (λ entering. applied_does _ _ _ _ (receive_then _ _ _ _) c.args.core.now c.fill.new.core c.enter.new.core c.args.install c.in_ok-fill.field-0 c.in_ok-fill.ensures.goes c.if-not-branch.false c.in_ok-fill.ensures.does entering)
    (rw c.in_ok-fill.ensures.scripts at c.enter.ensures.does)
