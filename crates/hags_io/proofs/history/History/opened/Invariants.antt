use Rattle.hags_io.specs.Deeds.{Opened}
use Rattle.hags_io.proofs.history.History.opened.Given as goal

abbrev pub ghost-with : goal.ghost-with
ghost-with a = Opened a._told.now.0 a._told.now.1
