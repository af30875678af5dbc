-- The group is idle, or what waits begins.
use Rattle.std.proofs.Common.{sym, ◌∙◌}
use Rattle.std.proofs.lemmas.Result.{IfOk-weaker}
use Rattle.entry_delivery.proofs.DoingLaws.{receive_nothing}
use Rattle.group_deciding.proofs.IdleLaws.{first_none, first_some}
use Rattle.group_deciding.proofs.passes.begin_first.Goals as goal

pub returns-then-is_group_idle-clause-does : goal.returns-then-is_group_idle-clause-does
returns-then-is_group_idle-clause-does g c = first_none _ _ (receive_nothing _ _) c.args.core.now c.args.group.now (sym (rw c.bytes.ensures.value at c.is_group_idle.ensures) ∙ c.if-is_group_idle.true)

pub returns-clause-does : goal.returns-clause-does
returns-clause-does g c =
    IfOk-weaker c.begin_waiting.result _ _
    (λ began done. first_some _ _ c.args.core.now c.begin_waiting.new.core began c.args.group.now (sym (rw c.bytes.ensures.value at c.is_group_idle.ensures) ∙ c.if-is_group_idle.false) done)
    c.begin_waiting.ensures.does
