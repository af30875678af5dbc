use Rattle.std.proofs.Common.{length}
use Rattle.line_reader.proofs.values.+differ.Given as goal

abbrev pub decreases-differ : goal.decreases-differ
decreases-differ l = length l.providers.now
