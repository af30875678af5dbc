use Rattle.std.proofs.Common.{◌≡◌, length}
use Rattle.view_state.specs.Codec.{views_ascend, views_ascend_from}
use Rattle.packet_codec.proofs.writable_lists.do_views_ascend.Given as goal

abbrev pub invariant-loop-s : goal.invariant-loop-s
invariant-loop-s l = views_ascend l.sources ≡ views_ascend_from l.last l.left

abbrev pub decreases-loop-s : goal.decreases-loop-s
decreases-loop-s l = length l.left
