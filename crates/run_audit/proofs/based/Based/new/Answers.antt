use Rattle.run_audit.proofs.BasedLaws.{none_based}
use Rattle.run_audit.proofs.based.Based.new.Goals as goal

pub returns : goal.returns
returns c = none_based (record { own = c.new.result; groups = c.new-2.result; first = c.new-3.result }) c.new.ensures c.new-2.ensures c.new-3.ensures
