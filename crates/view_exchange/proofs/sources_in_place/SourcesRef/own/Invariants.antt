use Rattle.std.proofs.Common.{◌≡◌, ◌++◌, length}
use Rattle.view_exchange.proofs.sources_in_place.SourcesRef.own.Given as goal

abbrev pub invariant-loop-x : goal.invariant-loop-x
invariant-loop-x l = l.self ≡ l.out ++ l.left

abbrev pub decreases-loop-x : goal.decreases-loop-x
decreases-loop-x l = length l.left
