use Rattle.std.proofs.Common.{Some, ◌∙◌}
use Rattle.run_audit.specs.Past.{fold_from}
use Rattle.audit_states.specs.States.{refolded}
use Rattle.audit_states.proofs.row_states.refold_row.Goals as goal

pub returns : goal.returns
unfolding refolded
returns c = λ i. Some (record { place = c.args.row.place; what = c.args.row.what; state = (c.in_ok-fold.ensures ∙ (λ j. fold_from c.args.view (c.in_ok-state.ensures j) 0 (c.front.ensures.items j))) i })
