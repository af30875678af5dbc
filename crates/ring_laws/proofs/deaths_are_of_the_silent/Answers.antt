use Rattle.ring_laws.proofs.Deaths.{deaths_are_of_the_silent as law}
use Rattle.ring_laws.proofs.deaths_are_of_the_silent.Goals as goal

pub returns : goal.returns
returns c = law
