use Rattle.std.proofs.Common.{◌∙◌}
use Rattle.run_audit.specs.Lists.{RowAt}
use Rattle.audit_states.proofs.list_states.ListStates.row.Goals as goal

pub returns : goal.returns
returns c =
    let r : RowAt = record { node = c.args.node; view = c.args.view; group = c.args.group.now } in
    λ ls are. c.in_ok-row.ensures ∙ are.rows r
