-- What is alike is said of any two providers, so the law is named here.
use Rattle.run_laws.proofs.gapless.Alike.{takers_hear_alike}
use Rattle.run_laws.proofs.gapless.takers_hear_alike.Goals as goal

pub returns : goal.returns
returns c = takers_hear_alike
