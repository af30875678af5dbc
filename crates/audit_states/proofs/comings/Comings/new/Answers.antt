use Rattle.audit_states.proofs.ComingLaws.{none_came}
use Rattle.audit_states.proofs.comings.Comings.new.Goals as goal

pub returns : goal.returns
returns c = none_came c.new.result.entries c.new.ensures.empty
