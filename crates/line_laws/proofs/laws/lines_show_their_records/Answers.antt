use Rattle.line_laws.proofs.Texts.{lines_show as law}
use Rattle.line_laws.proofs.laws.lines_show_their_records.Goals as goal

pub returns : goal.returns
returns c = law
