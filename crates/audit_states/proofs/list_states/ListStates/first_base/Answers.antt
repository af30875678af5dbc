use Rattle.std.proofs.Common.{◌∙◌}
use Rattle.run_audit.specs.Based.{ListAt}
use Rattle.audit_states.proofs.list_states.ListStates.first_base.Goals as goal

pub returns : goal.returns
returns c =
    let q : ListAt = record { view = c.args.view; group = c.args.group.now } in
    λ ls are. c.in_ok-first.ensures ∙ are.bases q
