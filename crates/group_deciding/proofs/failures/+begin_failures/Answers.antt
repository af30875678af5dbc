-- A choice that is left out whole, and one that begins.
use Rattle.std.proofs.lemmas.Result.{IfOk-weaker}
use Rattle.entry_delivery.proofs.DoingLaws.{receive_nothing}
use Rattle.group_deciding.proofs.EndingLaws.{failures_none, failures_on, failures_began}
use Rattle.group_deciding.proofs.failures.+begin_failures.Goals as goal

pub returns-then-most-eq0-clause-does : goal.returns-then-most-eq0-clause-does
returns-then-most-eq0-clause-does g t c = failures_none _ _ (receive_nothing _ _) _ _ _ c.if-most-eq0.true

pub returns-then-is_empty-clause-does : goal.returns-then-is_empty-clause-does
returns-then-is_empty-clause-does g t c =
    IfOk-weaker c.begin_failures.result _ _
    (λ began done. failures_on _ _ c.args.core.now c.next_fallen.new.core _ began c.args.group.now c.args.most c.in_ok-out.out c.is_empty.result c.if-most-eq0.false c.in_ok-out.ensures.out c.is_empty.ensures c.if-is_empty.true c.in_ok-out.ensures.rule c.in_ok-out.ensures.keeps done)
    c.begin_failures.ensures.does

pub returns-clause-does : goal.returns-clause-does
returns-clause-does g t c =
    failures_began _ _ c.args.core.now c.next_fallen.new.core _ c.args.group.now c.args.most c.in_ok-state.state c.in_ok-out.out c.is_empty.result c.if-most-eq0.false (rw c.bytes.ensures.value at c.in_ok-state.ensures.value)
    c.in_ok-out.ensures.out c.is_empty.ensures c.if-is_empty.false c.in_ok-out.ensures.rule c.in_ok-out.ensures.keeps c.in_ok-begin.ensures.does
