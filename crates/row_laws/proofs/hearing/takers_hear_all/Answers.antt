-- What stands of any provider at any node, so the law is named here.
use Rattle.row_laws.proofs.hearing.Listening.{takers_hear}
use Rattle.row_laws.proofs.hearing.takers_hear_all.Goals as goal

pub returns : goal.returns
returns c = takers_hear
