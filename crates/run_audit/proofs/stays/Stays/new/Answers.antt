use Rattle.run_audit.proofs.StayLaws.{none_yet}
use Rattle.run_audit.proofs.stays.Stays.new.Goals as goal

pub returns : goal.returns
returns c = none_yet c.new.result.entries c.new.ensures.empty
