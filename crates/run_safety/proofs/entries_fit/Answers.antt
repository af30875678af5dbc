use Rattle.run_safety.proofs.Lives.{always_fitted}
use Rattle.run_safety.proofs.entries_fit.Goals as goal

pub returns : goal.returns
returns c = always_fitted
