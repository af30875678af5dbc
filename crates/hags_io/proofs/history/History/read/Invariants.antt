use Rattle.hags_io.specs.Deeds.{Read}
use Rattle.hags_io.proofs.history.History.read.Given as goal

abbrev pub ghost-with : goal.ghost-with
ghost-with a = Read a._told.now
