use Rattle.std.proofs.Common.{length}
use Rattle.rsct_packet.specs.Format.{EachFits}
use Rattle.view_state.specs.Codec.{IsSource}
use Rattle.packet_codec.proofs.writable_lists.are_sources.Given as goal

abbrev pub invariant-loop-s : goal.invariant-loop-s
invariant-loop-s l = EachFits IsSource l.left → EachFits IsSource l.sources

abbrev pub decreases-loop-s : goal.decreases-loop-s
decreases-loop-s l = length l.left
