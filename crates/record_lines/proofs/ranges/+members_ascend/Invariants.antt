use Rattle.std.proofs.Common.{length}
use Rattle.record_lines.proofs.ranges.+members_ascend.Given as goal

abbrev pub decreases-members_ascend : goal.decreases-members_ascend
decreases-members_ascend l = length l.members.now
