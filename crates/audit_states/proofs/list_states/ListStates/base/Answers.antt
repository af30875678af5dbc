use Rattle.std.proofs.Common.{◌∙◌}
use Rattle.audit_states.proofs.StateLaws.{begun_is}
use Rattle.audit_states.proofs.list_states.ListStates.base.Goals as goal

pub returns : goal.returns
returns c = λ ls are. c.in_ok-state.ensures are.empty ∙ begun_is c.args.view c.args.group.now c.args.self.now.bases ls are.bases
