use Rattle.std.proofs.Common.{◌≡◌, length, map}
use Rattle.rsct_packet.specs.Listed.{ascending_from}
use Rattle.rsct_packet.specs.declared.ids.Member.{Member}
use Rattle.view_state.specs.Codec.{members_ascend}
use Rattle.packet_codec.proofs.writable_lists.do_members_ascend.Given as goal

abbrev pub invariant-loop-m : goal.invariant-loop-m
invariant-loop-m l = members_ascend l.members ≡ ascending_from l.last (map (λ (m : Member). m.node) l.left)

abbrev pub decreases-loop-m : goal.decreases-loop-m
decreases-loop-m l = length l.left
