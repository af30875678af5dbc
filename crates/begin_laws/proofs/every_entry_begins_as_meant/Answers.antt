use Rattle.begin_laws.proofs.Runs.{every_entry_begins_as_meant as law}
use Rattle.begin_laws.proofs.every_entry_begins_as_meant.Goals as goal

pub returns : goal.returns
returns c = law
