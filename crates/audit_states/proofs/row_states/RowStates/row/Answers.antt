use Rattle.std.proofs.Common.{◌∙◌, ap}
use Rattle.std.specs.Map.{lookup}
use Rattle.run_audit.specs.Lists.{RowAt, is_row_key}
use Rattle.run_audit.proofs.ListLaws.{row_found}
use Rattle.audit_states.proofs.row_states.RowStates.row.Goals as goal

pub returns : goal.returns
returns c =
    let r : RowAt = record { node = c.args.node; view = c.args.view; group = c.args.group.now } in
    c.get.ensures.value
    ∙ (row_found c.in_ok-key.key r c.self.inside.by_key.entries c.in_ok-key.ensures.node c.in_ok-key.ensures.view c.in_ok-key.ensures.group ∙ ap (λ z. lookup (is_row_key r) z) c.self.view_is)
