use Rattle.tick_laws.proofs.Ticks.{ticks_are_due as law}
use Rattle.tick_laws.proofs.ticks_are_due.Goals as goal

pub returns : goal.returns
returns c = law
