-- What is owed to the group's source begins.
use Rattle.std.proofs.lemmas.Result.{IfOk-weaker}
use Rattle.entry_delivery.proofs.DoingLaws.{receive_nothing}
use Rattle.group_deciding.proofs.EndingLaws.{none_due, source_owed}
use Rattle.group_deciding.proofs.source_dues.begin_due.Goals as goal

pub returns-clause-does : goal.returns-clause-does
returns-clause-does g c =
    IfOk-weaker c.begin_owed.result _ _ (λ began done. source_owed _ _ _ _ began c.args.group.now _ c.in_ok-state.state (rw c.bytes.ensures.value at c.in_ok-state.ensures.value) c.in-Some.is done) c.begin_owed.ensures.does

pub returns-in-None-clause-does : goal.returns-in-None-clause-does
returns-in-None-clause-does g c = none_due _ _ (receive_nothing _ _) c.args.core.now c.args.group.now c.in_ok-state.state (rw c.bytes.ensures.value at c.in_ok-state.ensures.value) c.in-None.is
