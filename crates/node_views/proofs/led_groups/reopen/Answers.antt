-- The phase is left as it is, or opened and then closed.
use Rattle.std.proofs.lemmas.Result.{on_ok_weaker}
use Rattle.entry_delivery.proofs.DoingLaws.{receive_nothing}
use Rattle.node_views.proofs.WorkLaws.{left_does, reopened_does}
use Rattle.node_views.proofs.led_groups.reopen.Goals as goal

pub returns-then-not-runs-clause-does : goal.returns-then-not-runs-clause-does
returns-then-not-runs-clause-does g c = left_does _ _ (receive_nothing _ _) c.args.core.now c.args.group.now c.args.runs c.if-not-runs.true

pub returns-clause-does : goal.returns-clause-does
returns-clause-does g c =
    on_ok_weaker c.close.result
    (λ closing. reopened_does _ _ c.args.core.now c.open_tally.new.core c.close.new.core c.args.group.now c.args.runs c.if-not-runs.false c.in_ok-open_tally.ensures.rule c.in_ok-open_tally.ensures.keeps closing)
    c.close.ensures.does
