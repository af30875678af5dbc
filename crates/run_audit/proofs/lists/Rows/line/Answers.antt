use Rattle.std.proofs.Common.{sym, ◌∙◌, ap}
use Rattle.run_audit.specs.Lists.{RowAt, row_line}
use Rattle.run_audit.proofs.ListLaws.{row_line_is}
use Rattle.run_audit.proofs.lists.Rows.line.Goals as goal

pub returns : goal.returns
returns c =
    let r : RowAt = record { node = c.args.node; view = c.args.view; group = c.args.group.now } in
    λ ls rows. c.row_line.ensures ∙ ap row_line (c.in_ok-last.ensures ∙ rows r) ∙ sym (row_line_is r ls)
