use Rattle.table_laws.proofs.RunMaps.{lists_say_maps as law}
use Rattle.table_laws.proofs.laws.lists_say_maps.Goals as goal

pub returns : goal.returns
returns c = law
