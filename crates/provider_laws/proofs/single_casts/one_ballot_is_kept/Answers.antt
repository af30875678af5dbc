-- What stands of any node, so the law is named here.
use Rattle.provider_laws.proofs.single_casts.KeptOnce.{one_kept}
use Rattle.provider_laws.proofs.single_casts.one_ballot_is_kept.Goals as goal

pub returns : goal.returns
returns c = one_kept
