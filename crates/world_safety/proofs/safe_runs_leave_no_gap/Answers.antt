-- No gap is said of any two places, so the law is named here.
use Rattle.world_safety.proofs.Scripts.{safe_runs_leave_no_gap}
use Rattle.world_safety.proofs.safe_runs_leave_no_gap.Goals as goal

pub returns : goal.returns
returns c = safe_runs_leave_no_gap
