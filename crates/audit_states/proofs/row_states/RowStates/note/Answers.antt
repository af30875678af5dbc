use Rattle.std.proofs.Common.{List, subst}
use Rattle.std.specs.Map.{KeepsOthers}
use Rattle.run_audit.specs.declared.lists.RowKey.{RowKey}
use Rattle.audit_states.specs.declared.row_states.RowState.{RowState}
use Rattle.run_audit.specs.Lists.{same_row_key}
use Rattle.audit_states.proofs.StateLaws.{row_comes}
use Rattle.audit_states.proofs.row_states.RowStates.note.Goals as goal

pub returns : goal.returns
returns c =
    λ ls g are view group base place. row_comes c.args.view g c.args.place c.args.entry.now c.args.key c.take-row.result c.what_of-what.result c.args.base.now c.in_ok-state.state c.take.new.self c.args.self.now c.take-row.new.self c.insert.new.self.entries ls view group
    c.take-row.ensures.row c.take-row.ensures.others c.in_ok-state.ensures c.in_ok-take.ensures c.what_of-what.ensures c.in_ok-insert.ensures.updates.1
    (subst (λ (z : List (RowKey × RowState)). KeepsOthers same_row_key (same_row_key c.args.key) z c.insert.new.self.entries) c.self.view_is c.in_ok-insert.ensures.updates.3) are base place
