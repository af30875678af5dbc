use Rattle.std.proofs.Common.{◌≡◌, ◌++◌, length}
use Rattle.std.specs.Prelude.{filter, not}
use Rattle.relay_packets.specs.declared.waiting.Waiting.{Waiting}
use Rattle.relay_packets.specs.Datagrams.{is_between}
use Rattle.relay_packets.proofs.datagrams.elsewhere.Given as goal

abbrev pub invariant-loop-x : goal.invariant-loop-x
invariant-loop-x l =
    filter (λ (x : Waiting). not (is_between l.from l.to x)) l.fn.waiting.items ≡ l.kept.items ++ filter (λ (x : Waiting). not (is_between l.from l.to x)) l.left.items

abbrev pub decreases-loop-x : goal.decreases-loop-x
decreases-loop-x l = length l.left.items
