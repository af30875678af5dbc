use Rattle.table_laws.proofs.RunMaps.{maps_exist as law}
use Rattle.table_laws.proofs.laws.maps_exist.Goals as goal

pub returns : goal.returns
returns c = law
