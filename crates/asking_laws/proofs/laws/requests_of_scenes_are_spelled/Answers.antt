use Rattle.asking_laws.proofs.Law.{requests_of_scenes_are_spelled as law}
use Rattle.asking_laws.proofs.laws.requests_of_scenes_are_spelled.Goals as goal

pub returns : goal.returns
returns c = law
