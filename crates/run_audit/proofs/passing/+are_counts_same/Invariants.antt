use Rattle.std.proofs.Common.{length}
use Rattle.run_audit.proofs.passing.+are_counts_same.Given as goal

abbrev pub decreases-are_counts_same : goal.decreases-are_counts_same
decreases-are_counts_same l = length l.groups.now
