use Rattle.piece_link.proofs.BoundLaw.{bounded}
use Rattle.piece_link.proofs.laws.bounded.Goals as goal

pub returns : goal.returns
returns c = bounded
