use Rattle.audit_states.proofs.StateLaws.{none_begun}
use Rattle.audit_states.proofs.list_bases.ListBases.new.Goals as goal

pub returns : goal.returns
returns c = none_begun c.new.result.entries c.new.ensures.empty
