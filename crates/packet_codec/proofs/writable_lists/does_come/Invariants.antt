use Rattle.std.proofs.Common.{◌≡◌, length}
use Rattle.view_state.specs.Codec.{comes_from}
use Rattle.packet_codec.proofs.writable_lists.does_come.Given as goal

abbrev pub invariant-loop-s : goal.invariant-loop-s
invariant-loop-s l = comes_from l.fn.wanted l.sources l.node ≡ comes_from l.wanted l.left l.node

abbrev pub decreases-loop-s : goal.decreases-loop-s
decreases-loop-s l = length l.left
