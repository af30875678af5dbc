-- Nothing begins any more, or something has begun and more may.
use Rattle.std.proofs.lemmas.Result.{on_ok_weaker}
use Rattle.entry_delivery.proofs.DoingLaws.{receive_nothing, receive_then}
use Rattle.group_deciding.proofs.EndingLaws.{passes_none, passes_end, passes_on}
use Rattle.group_deciding.proofs.step_end.+repeat.Goals as goal

pub returns-then-not-branch-clause-does : goal.returns-then-not-branch-clause-does
returns-then-not-branch-clause-does g t c = passes_end _ _ _ _ c.in_ok-pass.field-0 c.args.left c.args.most c.if-left-eq0.false c.if-not-branch.true c.in_ok-pass.ensures.does

pub returns-clause-does : goal.returns-clause-does
returns-clause-does g t c =
    on_ok_weaker c.repeat.result (λ done. passes_on _ _ _ _ (receive_then _ _ _ _) _ c.pass.new.core _ c.in_ok-pass.field-0 c.args.left c.args.most c.if-left-eq0.false c.if-not-branch.false c.in_ok-pass.ensures.does done) (rw c.in_ok-pass.ensures.scripts at c.repeat.ensures.does)

pub returns-then-left-eq0-clause-does : goal.returns-then-left-eq0-clause-does
returns-then-left-eq0-clause-does g t c = passes_none _ _ (receive_nothing _ _) c.args.core.now c.args.left c.args.most c.if-left-eq0.true
