use Rattle.std.proofs.Common.{◌∙◌}
use Rattle.run_audit.specs.Lists.{RowAt}
use Rattle.run_audit.proofs.ListLaws.{place_kept, place_broken}
use Rattle.run_audit.proofs.lists.Rows.fault.Goals as goal

pub returns-then-is_kept : goal.returns-then-is_kept
returns-then-is_kept c =
    λ ls e rows stays keep.
    let r : RowAt = record { node = c.args.node; view = c.args.view; group = c.args.group.now } in
    place_kept c.args.node c.args.view c.args.group.now c.args.place e c.view.result c.in_ok-last.last ls c.is_kept.result (c.in_ok-last.ensures ∙ rows r) (c.view.ensures ls stays) keep c.is_kept.ensures c.if-is_kept.true

pub returns-else-is_kept : goal.returns-else-is_kept
returns-else-is_kept c =
    λ ls e rows stays keep.
    let r : RowAt = record { node = c.args.node; view = c.args.view; group = c.args.group.now } in
    place_broken c.args.node c.args.view c.args.group.now c.args.place e c.view.result c.in_ok-last.last ls c.is_kept.result c.row_line.result (c.in_ok-last.ensures ∙ rows r) (c.view.ensures ls stays) keep c.is_kept.ensures c.if-is_kept.false c.row_line.ensures
