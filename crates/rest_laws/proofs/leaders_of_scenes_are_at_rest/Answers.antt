use Rattle.rest_laws.proofs.Law.{leaders_of_scenes_are_at_rest as law}
use Rattle.rest_laws.proofs.leaders_of_scenes_are_at_rest.Goals as goal

pub returns : goal.returns
returns c = law
