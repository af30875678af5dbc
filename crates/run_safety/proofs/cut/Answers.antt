use Rattle.run_safety.proofs.Lives.{always_cut}
use Rattle.run_safety.proofs.cut.Goals as goal

pub returns : goal.returns
returns c = always_cut
