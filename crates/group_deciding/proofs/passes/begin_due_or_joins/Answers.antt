-- What is due, or else the joins.
use Rattle.std.proofs.lemmas.Result.{IfOk-weaker}
use Rattle.entry_delivery.proofs.DoingLaws.{receive_then}
use Rattle.group_deciding.proofs.EndingLaws.{due_began, due_joins}
use Rattle.group_deciding.proofs.passes.begin_due_or_joins.Goals as goal

pub returns-then-branch-clause-does : goal.returns-then-branch-clause-does
returns-then-branch-clause-does g c = due_began _ _ _ _ c.in_ok-begin_due.field-0 c.args.group.now c.if-branch.true c.in_ok-begin_due.ensures.does

pub returns-clause-does : goal.returns-clause-does
returns-clause-does g c =
    IfOk-weaker c.begin_joins.result _ _
    (λ began done. due_joins _ _ _ _ (receive_then _ _ _ _) _ c.begin_due.new.core _ c.in_ok-begin_due.field-0 began c.args.group.now c.waiting_joins-joins.result c.if-branch.false (rw c.bytes.ensures.value at c.waiting_joins-joins.ensures.value) c.in_ok-begin_due.ensures.does done)
    (rw c.in_ok-begin_due.ensures.scripts at c.begin_joins.ensures.does)
