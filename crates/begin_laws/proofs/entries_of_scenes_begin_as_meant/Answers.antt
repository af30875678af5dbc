use Rattle.begin_laws.proofs.Law.{entries_of_scenes_begin_as_meant as law}
use Rattle.begin_laws.proofs.entries_of_scenes_begin_as_meant.Goals as goal

pub returns : goal.returns
returns c = law
