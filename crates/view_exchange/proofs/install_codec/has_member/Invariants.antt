use Rattle.std.proofs.Common.{◌≡◌, length}
use Rattle.view_state.specs.Codec.{has_member}
use Rattle.view_exchange.proofs.install_codec.has_member.Given as goal

abbrev pub invariant-loop-member : goal.invariant-loop-member
invariant-loop-member l = has_member l.members l.node ≡ has_member l.left l.node

abbrev pub decreases-loop-member : goal.decreases-loop-member
decreases-loop-member l = length l.left
