use Rattle.hags_io.specs.Telling.{Did}
use Rattle.daemon_model.specs.Settings.{placings_on}
use Rattle.link_use.proofs.places.tell_network.Given as goal

abbrev pub invariant-loop-before : goal.invariant-loop-before
invariant-loop-before g l = Did (g.O.Outside.told l.initial.outside) (g.O.Outside.told l.outside) (placings_on l.config l.network l.before)
