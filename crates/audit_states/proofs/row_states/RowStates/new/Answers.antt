use Rattle.audit_states.proofs.StateLaws.{none_put}
use Rattle.audit_states.proofs.row_states.RowStates.new.Goals as goal

pub returns : goal.returns
returns c = none_put c.new.result.entries c.new.ensures.empty
