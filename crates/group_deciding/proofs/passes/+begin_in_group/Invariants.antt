-- One beginning less is left.
use Rattle.group_deciding.proofs.passes.+begin_in_group.Given as goal

abbrev pub decreases-begin_in_group : goal.decreases-begin_in_group
decreases-begin_in_group g l = l.most
