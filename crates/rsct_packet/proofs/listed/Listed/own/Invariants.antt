use Rattle.std.proofs.Common.{◌≡◌, ◌++◌, length}
use Rattle.rsct_packet.proofs.listed.Listed.own.Given as goal

abbrev pub invariant-loop-x : goal.invariant-loop-x
invariant-loop-x g l = l.self ≡ l.out ++ l.left

abbrev pub decreases-loop-x : goal.decreases-loop-x
decreases-loop-x g l = length l.left
