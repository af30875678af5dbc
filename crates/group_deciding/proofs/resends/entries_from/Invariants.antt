-- The copies so far, and where the next one stands.
use Rattle.std.proofs.Common.{◌≡◌, ◌+◌, ◌-◌, ◌≤◌, length, take, drop}
use Rattle.group_deciding.proofs.resends.entries_from.Given as goal

abbrev pub invariant-loop-alloc : goal.invariant-loop-alloc
invariant-loop-alloc l = record {
  so_far : l.entries ≡ take (length l.entries) (drop (l.from - l.list.start) l.list.entries);
  place : l.place ≡ l.from + length l.entries;
  few : length l.entries ≤ 16;
}

abbrev pub decreases-loop-alloc : goal.decreases-loop-alloc
decreases-loop-alloc l = 16 - length l.entries
