use Rattle.table_laws.proofs.Agreeing.{whole_copies_are_equal as law}
use Rattle.table_laws.proofs.laws.whole_copies_are_equal.Goals as goal

pub returns : goal.returns
returns c = law
