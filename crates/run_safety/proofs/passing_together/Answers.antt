use Rattle.run_safety.proofs.Lives.{always_together}
use Rattle.run_safety.proofs.passing_together.Goals as goal

pub returns : goal.returns
returns c = always_together
