use Rattle.std.proofs.Common.{◌≡◌, length}
use Rattle.rsct_packet.specs.Providers.{differ}
use Rattle.rsct_packet.proofs.listed.are_apart.Given as goal

abbrev pub invariant-loop-p : goal.invariant-loop-p
invariant-loop-p l = differ l.providers ≡ differ l.left

abbrev pub decreases-loop-p : goal.decreases-loop-p
decreases-loop-p l = length l.left
