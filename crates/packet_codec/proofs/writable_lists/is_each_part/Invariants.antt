use Rattle.std.proofs.Common.{length}
use Rattle.rsct_packet.specs.Format.{EachFits}
use Rattle.view_state.specs.Codec.{IsPart}
use Rattle.packet_codec.proofs.writable_lists.is_each_part.Given as goal

abbrev pub invariant-loop-p : goal.invariant-loop-p
invariant-loop-p l = EachFits IsPart l.left → EachFits IsPart l.parts

abbrev pub decreases-loop-p : goal.decreases-loop-p
decreases-loop-p l = length l.left
