-- The groups that are left.
use Rattle.std.proofs.Common.{length}
use Rattle.group_deciding.proofs.leader_tick.+tick_groups.Given as goal

abbrev pub decreases-tick_groups : goal.decreases-tick_groups
decreases-tick_groups g l = length l.names.now
