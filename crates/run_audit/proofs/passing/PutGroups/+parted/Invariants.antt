use Rattle.std.proofs.Common.{length}
use Rattle.run_audit.proofs.passing.PutGroups.+parted.Given as goal

abbrev pub decreases-parted : goal.decreases-parted
decreases-parted l = length l.entrants.now
