-- The records so far.
use Rattle.std.proofs.Common.{◌≡◌, ◌++◌, take, map}
use Rattle.node_state.specs.Step.{ring_record}
use Rattle.node_start.proofs.start.record_rings.Given as goal

abbrev pub invariant-loop-ring : goal.invariant-loop-ring
invariant-loop-ring l = l.records ≡ l.initial.records ++ map (ring_record l.me) (take l.ring-index l.rings)
