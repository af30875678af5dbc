use Rattle.hags_io.specs.Deeds.{Placed}
use Rattle.hags_io.proofs.history.History.placed.Given as goal

abbrev pub ghost-with : goal.ghost-with
ghost-with a = Placed a._told.now.0 a._told.now.1 a._told.now.2 a._told.now.3
