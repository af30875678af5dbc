-- The rows with a list so far.
use Rattle.std.proofs.Common.{◌≡◌, ◌≤◌, take}
use Rattle.std.specs.Prelude.{is_some}
use Rattle.std.specs.List.{count_by}
use Rattle.node_state.specs.declared.group.GroupRow.{GroupRow}
use Rattle.node_views.proofs.own_lists.count_held.Given as goal

abbrev pub invariant-loop-row : goal.invariant-loop-row
invariant-loop-row l = (l.count ≡ count_by (λ (row : GroupRow). is_some row.list) (take l.row-index l.rows)) × (l.count ≤ l.row-index)
