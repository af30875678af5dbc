-- The entries below the place.
use Rattle.std.proofs.Common.{◌≡◌, ◌≤◌, ◌-◌, take}
use Rattle.node_views.proofs.own_lists.entries_of.Given as goal

abbrev pub invariant-loop-entry : goal.invariant-loop-entry
invariant-loop-entry l = (l.list.start ≤ l.place) × (l.entries ≡ take (l.place - l.list.start) l.list.entries)

abbrev pub decreases-loop-entry : goal.decreases-loop-entry
decreases-loop-entry l = l.list.len - l.place
