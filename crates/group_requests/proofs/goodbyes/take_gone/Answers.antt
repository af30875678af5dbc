-- By whether the node leads, and whether the provider is present.
use Rattle.std.proofs.Common.{refl, sym}
use Rattle.std.proofs.lemmas.Result.{on_ok_weaker}
use Rattle.node_groups.proofs.KeepLaws.{keeps_itself}
use Rattle.entry_delivery.proofs.DoingLaws.{receive_nothing, does_as}
use Rattle.group_leading.proofs.RowLaws.{does_row, on_ok_two}
use Rattle.group_requests.proofs.GoneLaws.{gone_unled, gone_here, away_does}
use Rattle.group_requests.proofs.goodbyes.take_gone.Goals as goal

pub returns-then-not-leads-clause-does : goal.returns-then-not-leads-clause-does
returns-then-not-leads-clause-does g c =
    does_row _ _ (receive_nothing _ _) c.args.core.now c.args.core.now c.args.core.now _ (keeps_itself c.args.core.now) (λ f. gone_unled f c.args.core.now c.args.group.now c.args.provider (sym (rw c.bytes.ensures.value at c.if-not-leads.ensures))) refl

pub returns-then-is_present-clause-does : goal.returns-then-is_present-clause-does
returns-then-is_present-clause-does g c =
    on_ok_weaker c.leave.result
    (does_as _ _ c.args.core.now c.leave.new.core _ _
    (λ f. gone_here f c.args.core.now c.args.group.now c.args.provider (sym (rw c.bytes.ensures.value at c.if-not-leads.ensures)) (sym (rw c.bytes-2.ensures.value at c.if-is_present.ensures))))
    c.leave.ensures.does

pub returns-clause-does : goal.returns-clause-does
returns-clause-does g c =
    on_ok_two c.drop_waiting.result
    (away_does _ _ (receive_nothing _ _) c.args.core.now c.drop_waiting.new.core c.args.group.now c.args.provider (sym (rw c.bytes.ensures.value at c.if-not-leads.ensures)) (sym (rw c.bytes-2.ensures.value at c.if-is_present.ensures)))
    c.drop_waiting.ensures.rule c.drop_waiting.ensures.keeps
