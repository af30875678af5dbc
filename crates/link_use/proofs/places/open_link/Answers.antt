use Rattle.std.proofs.Common.{[], ◌∷◌}
use Rattle.hags_io.specs.Deeds.{Opened}
use Rattle.hags_io.proofs.DeedLaws.{did_on}
use Rattle.daemon_model.specs.Settings.{placings}
use Rattle.link_use.proofs.places.open_link.Goals as goal

pub returns : goal.returns
returns g c = did_on _ _ _ (placings c.args.config.now) (Opened c.args.port c.open.result ∷ []) c.tell_places.ensures c.open.ensures
