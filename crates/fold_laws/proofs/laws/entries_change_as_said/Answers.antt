use Rattle.fold_laws.proofs.Changes.{entries_change_as_said as law}
use Rattle.fold_laws.proofs.laws.entries_change_as_said.Goals as goal

pub returns : goal.returns
returns c = law
