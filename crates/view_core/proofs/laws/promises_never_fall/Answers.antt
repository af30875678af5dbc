use Rattle.view_core.proofs.Promises.{promises_stand}
use Rattle.view_core.proofs.laws.promises_never_fall.Goals as goal

pub returns : goal.returns
returns c = promises_stand
