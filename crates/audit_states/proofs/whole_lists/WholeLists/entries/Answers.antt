use Rattle.audit_states.proofs.StateLaws.{entries_found}
use Rattle.audit_states.proofs.whole_lists.WholeLists.entries.Goals as goal

pub returns : goal.returns
returns c = λ ls are. entries_found c.in_ok-key.key c.args.view c.args.group.now c.at.result.now c.args.self.now ls c.in_ok-key.ensures.view c.in_ok-key.ensures.group c.at.ensures are
