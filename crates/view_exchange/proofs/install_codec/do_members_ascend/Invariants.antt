use Rattle.std.proofs.Common.{◌≡◌, length}
use Rattle.std.specs.Prelude.{map}
use Rattle.rsct_packet.specs.Listed.{ascending_from}
use Rattle.rsct_packet.specs.declared.ids.Member.{Member}
use Rattle.view_state.specs.Codec.{members_ascend}
use Rattle.view_exchange.proofs.install_codec.do_members_ascend.Given as goal

abbrev pub invariant-loop-member : goal.invariant-loop-member
invariant-loop-member l = members_ascend l.members ≡ ascending_from l.last (map (λ (m : Member). m.node) l.left)

abbrev pub decreases-loop-member : goal.decreases-loop-member
decreases-loop-member l = length l.left
