-- The rows so far.
use Rattle.std.proofs.Common.{◌≡◌, take}
use Rattle.std.specs.Prelude.{flat_map}
use Rattle.node_reach.specs.Reach.{row_of}
use Rattle.node_state.specs.Ticks.{row_listed}
use Rattle.node_rings.proofs.reports.rows_of.Given as goal

abbrev pub invariant-loop-n : goal.invariant-loop-n
invariant-loop-n l = l.rows ≡ flat_map (λ n. row_listed n (row_of l.reach n)) (take l.n-index l.nodes)
