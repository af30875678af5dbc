-- The lines so far.
use Rattle.std.proofs.Common.{◌≡◌, take, map}
use Rattle.std.specs.Prelude.{filter, is_some}
use Rattle.node_state.specs.Status.{group_line}
use Rattle.node_text.proofs.status.group_lines.Given as goal

abbrev pub invariant-loop-row : goal.invariant-loop-row
invariant-loop-row l = l.out ≡ map (group_line l.core) (filter (λ row. is_some row.list) (take l.row-index l.core.groups))
