-- Telling who is lost, row by row.
use Rattle.std.specs.Prelude.{Bool, true, false, Option, Some, None, is_some}
use Rattle.node_state.specs.declared.group.GroupRow.{GroupRow}
use Rattle.node_state.specs.declared.state.Core.{Core}
use Rattle.node_state.specs.Ticks.{lost_told}

abbrev pub told_if : Core → GroupRow → Bool → Core
told_if s row false = s
told_if s row true = lost_told s row

-- of the row, where there is one and the node holds its list
unfoldable pub told_at : Core → Option GroupRow → Core
told_at s None = s
told_at s (Some row) = told_if s row (is_some row.list)
