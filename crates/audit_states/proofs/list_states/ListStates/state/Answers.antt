use Rattle.std.proofs.Common.{None, Some, sym, ◌∙◌, ap, refl}
use Rattle.std.specs.Prelude.{option_copied}
use Rattle.run_audit.specs.Past.{base_state}
use Rattle.audit_states.specs.States.{row_state}
use Rattle.audit_states.proofs.StateLaws.{state_found}
use Rattle.audit_states.proofs.list_states.ListStates.state.Goals as goal

pub returns-in_ok-state-in-None : goal.returns-in_ok-state-in-None
unfolding row_state
returns-in_ok-state-in-None c =
    λ ls are. state_found c.args.node c.args.view c.args.group.now None c.in_ok-state-in-None.state.now c.in_ok-state-in-None.state.now c.args.self.now.rows ls (sym (ap option_copied c.in-None.is) ∙ c.in_ok-row.ensures) (c.in_ok-state-in-None.ensures ls are) refl are.rows

pub returns-in-Some : goal.returns-in-Some
unfolding row_state
returns-in-Some c =
    λ ls are. state_found c.args.node c.args.view c.args.group.now (Some c.in-Some.row.now) (base_state c.args.view c.args.group.now ls) c.in-Some.row.now.state c.args.self.now.rows ls (sym (ap option_copied c.in-Some.is) ∙ c.in_ok-row.ensures) refl refl are.rows
