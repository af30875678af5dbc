-- So many phases more.
use Rattle.group_leading.proofs.phases.+close_from.Given as goal

abbrev pub decreases-close_from : goal.decreases-close_from
decreases-close_from g l = l.most
