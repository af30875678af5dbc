use Rattle.line_laws.proofs.Differ.{lines_differ as law}
use Rattle.line_laws.proofs.laws.different_records_have_different_lines.Goals as goal

pub returns : goal.returns
returns c = law
