-- Where the group has a row, a join that does not wait leaves it as it is.
use Rattle.std.proofs.Common.{true, false, refl}
use Rattle.std.specs.Option.{option_copied}
use Rattle.std.proofs.lemmas.Result.{on_ok_weaker}
use Rattle.group_leading.proofs.RowLaws.{copied_is}
use Rattle.group_requests.proofs.GoneLaws.{join_none, join_some}
use Rattle.group_requests.proofs.goodbyes.drop_waiting.Goals as goal

pub returns-then-is_none-clause-rule : goal.returns-then-is_none-clause-rule
returns-then-is_none-clause-rule c =
    λ f. join_none f c.args.core.now c.args.group.now c.args.provider (option_copied c.row_of.result) (rw c.bytes.ensures.value at c.row_of.ensures) (copied_is c.row_of.result (option_copied c.row_of.result) false refl c.if-is_none.ensures)

pub returns-clause-rule : goal.returns-clause-rule
returns-clause-rule c =
    on_ok_weaker c.drop_join.result
    (λ dropped f. join_some f c.args.core.now c.drop_join.new.core c.args.group.now c.args.provider (option_copied c.row_of.result) (rw c.bytes.ensures.value at c.row_of.ensures) (copied_is c.row_of.result (option_copied c.row_of.result) true refl c.if-is_none.ensures) c.requires.order dropped)
    c.drop_join.ensures.rule
