-- What was sent so far.
use Rattle.std.proofs.Common.{◌≡◌, ◌+◌, length}
use Rattle.node_state.specs.Ticks.{entries_sent}
use Rattle.group_deciding.proofs.resends.send_entries.Given as goal

abbrev pub invariant-loop-entry : goal.invariant-loop-entry
invariant-loop-entry l = (l.core ≡ entries_sent l.to l.group l.first l.stable l.yielded l.initial.core) × (l.place ≡ l.first + length l.yielded)
