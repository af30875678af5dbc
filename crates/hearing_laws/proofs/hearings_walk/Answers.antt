use Rattle.hearing_laws.proofs.Walk.{hearings_walk as law}
use Rattle.hearing_laws.proofs.hearings_walk.Goals as goal

pub returns : goal.returns
returns c = law
