use Rattle.call_laws.proofs.Law.{calls_of_scenes_are_said as law}
use Rattle.call_laws.proofs.calls_of_scenes_are_said.Goals as goal

pub returns : goal.returns
returns c = law
