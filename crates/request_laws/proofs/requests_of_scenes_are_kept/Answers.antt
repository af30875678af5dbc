use Rattle.request_laws.proofs.Law.{requests_of_scenes_are_kept as law}
use Rattle.request_laws.proofs.requests_of_scenes_are_kept.Goals as goal

pub returns : goal.returns
returns c = law
