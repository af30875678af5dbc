-- One group less is left.
use Rattle.std.proofs.Common.{length}
use Rattle.group_deciding.proofs.passes.+begin_in_each.Given as goal

abbrev pub decreases-begin_in_each : goal.decreases-begin_in_each
decreases-begin_in_each g l = length l.names.now
