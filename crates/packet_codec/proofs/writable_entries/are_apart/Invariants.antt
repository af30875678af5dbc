use Rattle.std.proofs.Common.{◌≡◌, length}
use Rattle.proposal_core.specs.ProposalCodec.{failures_differ}
use Rattle.packet_codec.proofs.writable_entries.are_apart.Given as goal

abbrev pub invariant-loop-f : goal.invariant-loop-f
invariant-loop-f l = failures_differ l.failures ≡ failures_differ l.left

abbrev pub decreases-loop-f : goal.decreases-loop-f
decreases-loop-f l = length l.left
