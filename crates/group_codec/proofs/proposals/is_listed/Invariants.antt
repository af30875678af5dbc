use Rattle.std.proofs.Common.{◌≡◌, length}
use Rattle.std.specs.List.{list_any}
use Rattle.proposal_core.specs.ProposalCodec.{same_failure}
use Rattle.group_codec.proofs.proposals.is_listed.Given as goal

abbrev pub invariant-loop-g : goal.invariant-loop-g
invariant-loop-g l = list_any (λ g. same_failure g l.failure) l.failures ≡ list_any (λ g. same_failure g l.failure) l.left

abbrev pub decreases-loop-g : goal.decreases-loop-g
decreases-loop-g l = length l.left
