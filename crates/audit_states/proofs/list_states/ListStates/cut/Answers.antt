use Rattle.std.proofs.Common.{◌∙◌}
use Rattle.audit_states.proofs.StateLaws.{cut_is}
use Rattle.audit_states.proofs.list_states.ListStates.cut.Goals as goal

pub returns : goal.returns
returns c =
    λ ls are. cut_is c.args.group.now c.args.base.now c.in_ok-state.state c.fold.new.state c.in_ok-entries.entries.now c.front.result.now ls (c.in_ok-state.ensures ∙ c.in_ok-begun.ensures ls are) (c.in_ok-entries.ensures ls are.lists) c.front.ensures.items c.in_ok-fold.ensures
