use Rattle.table_laws.proofs.Carrying.{chunks_are_carried as law}
use Rattle.table_laws.proofs.laws.chunks_are_carried.Goals as goal

pub returns : goal.returns
returns c = law
