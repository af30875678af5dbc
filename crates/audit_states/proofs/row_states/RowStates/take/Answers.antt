use Rattle.std.proofs.Common.{List, ◌∙◌, ap, subst}
use Rattle.std.specs.Map.{lookup, KeepsOthers}
use Rattle.run_audit.specs.declared.lists.RowKey.{RowKey}
use Rattle.audit_states.specs.declared.row_states.RowState.{RowState}
use Rattle.run_audit.specs.Lists.{same_row_key}
use Rattle.audit_states.proofs.row_states.RowStates.take.Goals as goal

pub returns-clause-row : goal.returns-clause-row
returns-clause-row c = c.swap_remove.ensures.value ∙ ap (λ z. lookup (same_row_key c.args.key.now) z) c.self.view_is

pub returns-clause-others : goal.returns-clause-others
returns-clause-others c = subst (λ (z : List (RowKey × RowState)). KeepsOthers same_row_key (same_row_key c.args.key.now) z c.swap_remove.new.self.entries) c.self.view_is c.swap_remove.ensures.updates.3
