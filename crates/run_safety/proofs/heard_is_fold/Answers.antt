use Rattle.run_safety.proofs.Lives.{always_fold}
use Rattle.run_safety.proofs.heard_is_fold.Goals as goal

pub returns : goal.returns
returns c = always_fold
