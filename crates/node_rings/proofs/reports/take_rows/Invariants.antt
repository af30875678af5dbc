-- What was taken so far.
use Rattle.std.proofs.Common.{◌≡◌, take}
use Rattle.std.specs.Prelude.{fold}
use Rattle.node_state.specs.Ticks.{row_reported}
use Rattle.node_rings.proofs.reports.take_rows.Given as goal

abbrev pub invariant-loop-row : goal.invariant-loop-row
invariant-loop-row l = l.reach ≡ fold row_reported l.initial.reach (take l.row-index l.rows)
