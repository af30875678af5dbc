-- What each group sees, and the lists of all groups, are both for any number, so the law is named here.
use Rattle.step_refinement.proofs.RunLaw.{reached_runs}
use Rattle.step_refinement.proofs.runs_are_safe.Goals as goal

pub returns : goal.returns
returns c = reached_runs
