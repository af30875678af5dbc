-- The lines so far.
use Rattle.std.proofs.Common.{◌≡◌, take, map}
use Rattle.node_state.specs.Status.{ring_line}
use Rattle.node_text.proofs.status.ring_lines.Given as goal

abbrev pub invariant-loop-ring : goal.invariant-loop-ring
invariant-loop-ring l = l.out ≡ map ring_line (take l.ring-index l.rings)
