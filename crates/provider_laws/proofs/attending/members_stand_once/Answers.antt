-- What stands at any node and in any group, so the law is named here.
use Rattle.provider_laws.proofs.attending.States.{stand_once}
use Rattle.provider_laws.proofs.attending.members_stand_once.Goals as goal

pub returns : goal.returns
returns c = stand_once
