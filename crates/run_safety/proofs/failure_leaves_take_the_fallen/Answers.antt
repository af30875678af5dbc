-- What both ends of a failure leave do, so the law is named here.
use Rattle.run_safety.proofs.failure_leaves_take_the_fallen.Goals as goal
use Rattle.run_safety.proofs.Failures.{take_the_fallen}

pub returns : goal.returns
returns c = take_the_fallen
