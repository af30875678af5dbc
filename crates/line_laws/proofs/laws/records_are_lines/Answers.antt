use Rattle.line_laws.proofs.Parts.{records_are_lines as law}
use Rattle.line_laws.proofs.laws.records_are_lines.Goals as goal

pub returns : goal.returns
returns c = law
