use Rattle.fold_laws.proofs.Voters.{voters_are_who_stays as law}
use Rattle.fold_laws.proofs.laws.voters_are_who_stays.Goals as goal

pub returns : goal.returns
returns c = law
