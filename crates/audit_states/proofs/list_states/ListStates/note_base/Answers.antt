use Rattle.std.proofs.Common.{◌≡◌, None, ◌∷◌, sym, ◌∙◌}
use Rattle.record_lines.specs.declared.line.Line.TheVariants as line
use Rattle.run_audit.specs.Past.{base_state}
use Rattle.std.specs.Map.{lookup}
use Rattle.run_audit.specs.Lists.{same_list_key}
use Rattle.run_audit.proofs.FoundLaws.{none_there, one_there}
use Rattle.audit_states.proofs.RefoldLaws.{based_again, first_base_state, lists_based, rows_based}
use Rattle.audit_states.proofs.list_states.ListStates.note_base.Goals as goal

pub returns-then-has : goal.returns-then-has
returns-then-has c =
    λ ls n are fit place entry text.
    let y = one_there (lookup (same_list_key c.in_ok-key.key) c.args.self.now.bases) (sym c.has.ensures ∙ c.if-has.true) in
    based_again n c.args.view c.args.group.now c.args.base.now ls y.0 c.in_ok-key.key c.args.self.now c.in_ok-key.ensures.view c.in_ok-key.ensures.group y.1 are

pub returns : goal.returns
returns c =
    λ ls n are fit place entry text.
    let none : lookup (same_list_key c.in_ok-key.key) c.args.self.now.bases ≡ None = none_there (lookup (same_list_key c.in_ok-key.key) c.args.self.now.bases) (sym c.has.ensures ∙ c.if-has.false) in
    let begins : c.set_failed.new.self ≡ base_state c.args.view c.args.group.now (line.Base n c.args.view c.args.group.now c.args.base.now ∷ ls) =
    first_base_state n c.args.view c.args.group.now c.args.base.now c.in_ok-key.key c.in_ok-state.state c.set_failed.new.self c.in_ok-failed.failed c.args.self.now.bases ls c.in_ok-key.ensures.view c.in_ok-key.ensures.group none are.bases (c.in_ok-state.ensures ls are) c.in_ok-failed.ensures c.set_failed.ensures in
    record {
      lists = lists_based n c.args.view c.args.group.now c.args.base.now c.args.self.now.lists ls are.lists;
      bases = c.in_ok-note.ensures ls n c.args.view c.args.group.now c.args.base.now are.bases c.in_ok-key.ensures.view c.in_ok-key.ensures.group none text begins;
      rows = rows_based n c.args.view c.args.group.now c.args.base.now c.set_failed.new.self c.in_ok-entries.entries.now c.args.self.now.rows c.refold_all.new.self ls c.in_ok-refold_all.ensures are.rows fit place entry (c.in_ok-entries.ensures ls are.lists) begins;
      empty = are.empty;
    }
