use Rattle.table_laws.proofs.Agreeing.{tables_agree as law}
use Rattle.table_laws.proofs.laws.tables_agree.Goals as goal

pub returns : goal.returns
returns c = law
