use Rattle.table_laws.proofs.Agreeing.{first_joiners_are_whole as law}
use Rattle.table_laws.proofs.laws.first_joiners_are_whole.Goals as goal

pub returns : goal.returns
returns c = law
