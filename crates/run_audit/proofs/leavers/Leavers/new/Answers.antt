use Rattle.run_audit.proofs.PassLaws.{none_passed}
use Rattle.run_audit.proofs.leavers.Leavers.new.Goals as goal

pub returns : goal.returns
returns c = none_passed c.new.result.entries c.new.ensures.empty
