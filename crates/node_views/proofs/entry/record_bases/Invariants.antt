-- The records of the bases so far.
use Rattle.std.proofs.Common.{◌≡◌, ◌++◌, take, map}
use Rattle.node_views.specs.Arriving.{base_at}
use Rattle.node_views.proofs.entry.record_bases.Given as goal

abbrev pub invariant-loop-base : goal.invariant-loop-base
invariant-loop-base l = l.records ≡ l.initial.records ++ map (base_at l.node l.view) (take l.base-index l.bases)
