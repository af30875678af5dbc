use Rattle.std.proofs.Common.{◌≡◌, length}
use Rattle.rsct_packet.specs.Providers.{none_among}
use Rattle.group_codec.proofs.states.are_none_listed.Given as goal

abbrev pub invariant-loop-p : goal.invariant-loop-p
invariant-loop-p l = none_among l.providers l.others ≡ none_among l.providers l.left

abbrev pub decreases-loop-p : goal.decreases-loop-p
decreases-loop-p l = length l.left
