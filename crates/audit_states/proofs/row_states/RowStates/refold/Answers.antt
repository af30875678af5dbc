use Rattle.std.proofs.Common.{List, sym, subst, ◌∙◌}
use Rattle.std.specs.Map.{KeepsOthers}
use Rattle.run_audit.specs.declared.lists.RowKey.{RowKey}
use Rattle.audit_states.specs.declared.row_states.RowState.{RowState}
use Rattle.run_audit.specs.Lists.{same_row_key}
use Rattle.audit_states.proofs.RefoldLaws.{none_refolded, row_refolded}
use Rattle.audit_states.proofs.row_states.RowStates.refold.Goals as goal

pub returns-in-None : goal.returns-in-None
returns-in-None c = λ q. none_refolded c.args.key c.args.view c.args.base.now c.args.entries.now c.args.self.now c.take.new.self (sym c.in-None.is ∙ c.take.ensures.row) c.in-None.ensures.nothing q

pub returns-in_ok-insert-in-Some : goal.returns-in_ok-insert-in-Some
returns-in_ok-insert-in-Some c =
    λ q. row_refolded c.args.key c.args.view c.args.base.now c.args.entries.now c.args.self.now c.insert.new.self.entries c.in-Some.row c.in_ok-row-in-Some.row c.take.new.self (sym c.in-Some.is ∙ c.take.ensures.row) c.take.ensures.others c.in_ok-row-in-Some.ensures
    c.in_ok-insert-in-Some.ensures.updates.1 (subst (λ (z : List (RowKey × RowState)). KeepsOthers same_row_key (same_row_key c.args.key) z c.insert.new.self.entries) c.self.view_is c.in_ok-insert-in-Some.ensures.updates.3) q
