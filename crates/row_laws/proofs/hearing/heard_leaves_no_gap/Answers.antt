-- No gap is said of any two places, so the law is named here.
use Rattle.row_laws.proofs.hearing.NoGap.{no_gap}
use Rattle.row_laws.proofs.hearing.heard_leaves_no_gap.Goals as goal

pub returns : goal.returns
returns c = no_gap
