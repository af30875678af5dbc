use Rattle.audit_states.proofs.StateLaws.{none_kept}
use Rattle.audit_states.proofs.list_states.ListStates.new.Goals as goal

pub returns : goal.returns
returns c = none_kept (record { lists = c.new.result; bases = c.new-2.result; rows = c.new-3.result; empty = c.empty.result }) c.new.ensures c.new-2.ensures c.new-3.ensures c.empty.ensures
