use Rattle.table_laws.proofs.RunMaps.{notices_are_of_lists as law}
use Rattle.table_laws.proofs.laws.notices_are_of_lists.Goals as goal

pub returns : goal.returns
returns c = law
