-- The numbers that are left.
use Rattle.std.proofs.Common.{length}
use Rattle.node_rings.proofs.view_ask.+are_reached.Given as goal

abbrev pub decreases-are_reached : goal.decreases-are_reached
decreases-are_reached l = length l.numbers.now
