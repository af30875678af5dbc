use Rattle.fold_laws.proofs.Room.{lists_have_room as law}
use Rattle.fold_laws.proofs.laws.lists_have_room.Goals as goal

pub returns : goal.returns
returns c = law
