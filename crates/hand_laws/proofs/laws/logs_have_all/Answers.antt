use Rattle.hand_laws.proofs.Along.{logs_have_all as law}
use Rattle.hand_laws.proofs.laws.logs_have_all.Goals as goal

pub returns : goal.returns
returns g c = law g.C.Callbacks.stands_for
