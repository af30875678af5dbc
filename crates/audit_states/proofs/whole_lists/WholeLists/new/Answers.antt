use Rattle.audit_states.proofs.StateLaws.{none_listed}
use Rattle.audit_states.proofs.whole_lists.WholeLists.new.Goals as goal

pub returns : goal.returns
returns c = none_listed c.new.result.entries c.new.ensures.empty
