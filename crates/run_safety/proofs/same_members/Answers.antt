use Rattle.run_safety.proofs.Lives.{always_same_members}
use Rattle.run_safety.proofs.same_members.Goals as goal

pub returns : goal.returns
returns c = always_same_members
