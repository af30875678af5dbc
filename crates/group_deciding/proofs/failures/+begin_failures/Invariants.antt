-- One choice less is left to take.
use Rattle.group_deciding.proofs.failures.+begin_failures.Given as goal

abbrev pub decreases-begin_failures : goal.decreases-begin_failures
decreases-begin_failures g l = l.most
