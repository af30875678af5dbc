use Rattle.run_audit.proofs.OpenLaws.{none_heard}
use Rattle.run_audit.proofs.opened.HeardOpen.new.Goals as goal

pub returns : goal.returns
returns c = none_heard c.new.result.entries c.new.ensures.empty
