use Rattle.table_laws.proofs.Carrying.{the_present_asked as law}
use Rattle.table_laws.proofs.laws.the_present_asked.Goals as goal

pub returns : goal.returns
returns c = law
