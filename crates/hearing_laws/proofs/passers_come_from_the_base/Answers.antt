use Rattle.hearing_laws.proofs.Passing.{passers_come_from_the_base as law}
use Rattle.hearing_laws.proofs.passers_come_from_the_base.Goals as goal

pub returns : goal.returns
returns c = law
