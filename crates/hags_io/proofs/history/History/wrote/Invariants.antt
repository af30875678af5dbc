use Rattle.hags_io.specs.Deeds.{Wrote}
use Rattle.hags_io.proofs.history.History.wrote.Given as goal

abbrev pub ghost-with : goal.ghost-with
ghost-with a = Wrote a._told.now.0.now a._told.now.1
