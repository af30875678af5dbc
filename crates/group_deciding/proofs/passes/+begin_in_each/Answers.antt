-- The first group, and then the others.
use Rattle.std.proofs.lemmas.List.{take_rest}
use Rattle.std.proofs.lemmas.Result.{IfOk-weaker}
use Rattle.entry_delivery.proofs.DoingLaws.{receive_nothing, receive_then}
use Rattle.group_deciding.proofs.EndingLaws.{each_none, head_rest, each_on}
use Rattle.group_deciding.proofs.passes.+begin_in_each.Goals as goal

pub returns-in_ok-began-in-len1-up-clause-does : goal.returns-in_ok-began-in-len1-up-clause-does
returns-in_ok-began-in-len1-up-clause-does g t c =
    IfOk-weaker c.begin_in_each.result _ _
    (λ b done. each_on _ _ _ _ (receive_then _ _ _ _) _ c.begin_in_group.new.core _ c.args.began c.in_ok-began-in-len1-up.began b c.args.most c.args.names.now c.g-item.result _ (head_rest c.args.names.now c.g-item.result c.in-len1-up.len_at_least c.g-item.is)
    c.in_ok-began-in-len1-up.ensures.does done)
    (rw (c.in_ok-began-in-len1-up.ensures.scripts, take_rest c.args.names.now 1) at c.begin_in_each.ensures.does)

pub returns-in-empty-clause-does : goal.returns-in-empty-clause-does
returns-in-empty-clause-does g t c = each_none _ _ (receive_nothing _ _) c.args.core.now c.args.began c.args.most c.args.names.now c.in-empty.len_below
