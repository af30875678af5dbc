-- Nothing begins any more, or something does and more may.
use Rattle.std.proofs.lemmas.Result.{IfOk-weaker}
use Rattle.entry_delivery.proofs.DoingLaws.{receive_nothing, receive_then}
use Rattle.group_deciding.proofs.EndingLaws.{group_none, group_ends, group_on}
use Rattle.group_deciding.proofs.passes.+begin_in_group.Goals as goal

pub returns-then-not-branch-clause-does : goal.returns-then-not-branch-clause-does
returns-then-not-branch-clause-does g t c = group_ends _ _ _ _ c.args.began c.in_ok-begin_first.field-0 c.args.group.now c.args.most c.if-most-eq0.false c.if-not-branch.true c.in_ok-begin_first.ensures.does

pub returns-clause-does : goal.returns-clause-does
returns-clause-does g t c =
    IfOk-weaker c.begin_in_group.result _ _
    (λ b done. group_on _ _ _ _ (receive_then _ _ _ _) _ c.begin_first.new.core _ c.args.began c.in_ok-begin_first.field-0 b c.args.group.now c.args.most c.if-most-eq0.false c.if-not-branch.false c.in_ok-begin_first.ensures.does done)
    (rw c.in_ok-begin_first.ensures.scripts at c.begin_in_group.ensures.does)

pub returns-then-most-eq0-clause-does : goal.returns-then-most-eq0-clause-does
returns-then-most-eq0-clause-does g t c = group_none _ _ (receive_nothing _ _) c.args.core.now c.args.began c.args.group.now c.args.most c.if-most-eq0.true
