-- The failures, or else what is due or the joins.
use Rattle.std.proofs.lemmas.Result.{IfOk-weaker}
use Rattle.entry_delivery.proofs.DoingLaws.{receive_then}
use Rattle.group_deciding.proofs.EndingLaws.{waiting_began, waiting_on}
use Rattle.group_deciding.proofs.passes.begin_waiting.Goals as goal

pub returns-then-branch-clause-does : goal.returns-then-branch-clause-does
returns-then-branch-clause-does g c =
    waiting_began _ _ _ _ c.in_ok-begin_failures.field-0 c.args.group.now c.waiting_failures-failures.result c.if-branch.true (rw c.bytes.ensures.value at c.waiting_failures-failures.ensures.value) c.in_ok-begin_failures.ensures.does

pub returns-clause-does : goal.returns-clause-does
returns-clause-does g c =
    IfOk-weaker c.begin_due_or_joins.result _ _
    (λ began done. waiting_on _ _ _ _ (receive_then _ _ _ _) _ c.begin_failures.new.core _ c.in_ok-begin_failures.field-0 began c.args.group.now c.waiting_failures-failures.result c.if-branch.false (rw c.bytes.ensures.value at c.waiting_failures-failures.ensures.value)
    c.in_ok-begin_failures.ensures.does done)
    (rw c.in_ok-begin_failures.ensures.scripts at c.begin_due_or_joins.ensures.does)
