-- What stands of any two ballots, so the law is named here.
use Rattle.provider_laws.proofs.single_casts.Once.{kept_as_cast}
use Rattle.provider_laws.proofs.single_casts.ballots_are_kept_as_cast.Goals as goal

pub returns : goal.returns
returns c = kept_as_cast
