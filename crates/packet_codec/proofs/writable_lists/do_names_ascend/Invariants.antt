use Rattle.std.proofs.Common.{◌≡◌, length}
use Rattle.std.specs.Prelude.{option_copied}
use Rattle.view_state.specs.Codec.{names_ascend, names_ascend_from}
use Rattle.packet_codec.proofs.writable_lists.do_names_ascend.Given as goal

abbrev pub invariant-loop-p : goal.invariant-loop-p
invariant-loop-p l = names_ascend l.parts ≡ names_ascend_from (option_copied l.last) l.left

abbrev pub decreases-loop-p : goal.decreases-loop-p
decreases-loop-p l = length l.left
