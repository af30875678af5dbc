-- One choice less is left to take.
use Rattle.group_deciding.proofs.joins.+begin_joins.Given as goal

abbrev pub decreases-begin_joins : goal.decreases-begin_joins
decreases-begin_joins g l = l.most
