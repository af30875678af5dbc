use Rattle.std.proofs.Common.{◌≡◌, drop}
use Rattle.view_exchange.proofs.in_place.EntriesRef.get.Given as goal

abbrev pub invariant-loop-k : goal.invariant-loop-k
invariant-loop-k l = l.left ≡ drop l._k l.self
