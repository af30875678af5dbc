use Rattle.run_safety.proofs.RunTallyLaw.{run_tallied}
use Rattle.run_safety.proofs.groups_close_by_tally.Goals as goal

pub returns : goal.returns
returns c = run_tallied
