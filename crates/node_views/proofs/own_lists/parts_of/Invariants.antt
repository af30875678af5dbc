-- The lists of the rows so far.
use Rattle.std.proofs.Common.{◌≡◌, take}
use Rattle.node_views.specs.Carried.{parts_of_rows}
use Rattle.node_views.proofs.own_lists.parts_of.Given as goal

abbrev pub invariant-loop-row : goal.invariant-loop-row
invariant-loop-row l = l.parts ≡ parts_of_rows (take l.row-index l.rows)
