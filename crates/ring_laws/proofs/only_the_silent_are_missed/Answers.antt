use Rattle.ring_laws.proofs.Law.{only_the_silent_are_missed as law}
use Rattle.ring_laws.proofs.only_the_silent_are_missed.Goals as goal

pub returns : goal.returns
returns c = law
