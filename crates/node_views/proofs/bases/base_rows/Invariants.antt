-- The rows of the bases so far.
use Rattle.std.proofs.Common.{◌≡◌, take, map}
use Rattle.node_state.specs.Applying.{base_row}
use Rattle.node_views.proofs.bases.base_rows.Given as goal

abbrev pub invariant-loop-base : goal.invariant-loop-base
invariant-loop-base l = l.rows.items ≡ map base_row (take l.base-index l.bases)
