-- One pass less is left.
use Rattle.group_deciding.proofs.step_end.+repeat.Given as goal

abbrev pub decreases-repeat : goal.decreases-repeat
decreases-repeat g l = l.left
