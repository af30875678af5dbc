use Rattle.std.proofs.Common.{length}
use Rattle.record_lines.proofs.fits.+failures_differ.Given as goal

abbrev pub decreases-failures_differ : goal.decreases-failures_differ
decreases-failures_differ l = length l.failures.now
