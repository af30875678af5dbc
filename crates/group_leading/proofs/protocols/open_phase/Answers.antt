-- The entry was appended, the tally opened, and what has an outcome at once closed.
use Rattle.std.proofs.lemmas.Result.{on_ok_weaker}
use Rattle.entry_delivery.proofs.DoingLaws.{receive_then}
use Rattle.group_leading.proofs.CloseLaws.{opened_does}
use Rattle.group_leading.proofs.protocols.open_phase.Goals as goal

pub returns-clause-does : goal.returns-clause-does
returns-clause-does g c =
    on_ok_weaker c.close.result
    (λ closing. opened_does _ _ _ _ (receive_then _ _ _ _) c.args.core.now c.append.new.core c.open_tally.new.core c.close.new.core c.args.group.now c.args.entry.now c.in_ok-append.ensures.does c.in_ok-open_tally.ensures.rule c.in_ok-open_tally.ensures.keeps (rw c.in_ok-append.ensures.scripts at closing))
    c.close.ensures.does
