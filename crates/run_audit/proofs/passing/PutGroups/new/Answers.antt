use Rattle.run_audit.proofs.PassLaws.{none_put}
use Rattle.run_audit.proofs.passing.PutGroups.new.Goals as goal

pub returns : goal.returns
returns c = none_put c.new.result c.new.ensures
