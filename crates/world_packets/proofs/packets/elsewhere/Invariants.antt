use Rattle.std.proofs.Common.{◌≡◌, ◌++◌, length}
use Rattle.std.specs.Prelude.{filter, not}
use Rattle.world_packets.specs.declared.waiting.Waiting.{Waiting}
use Rattle.world_packets.specs.Packets.{is_between}
use Rattle.world_packets.proofs.packets.elsewhere.Given as goal

abbrev pub invariant-loop-x : goal.invariant-loop-x
invariant-loop-x l =
    filter (λ (x : Waiting). not (is_between l.from l.to x)) l.fn.waiting.items ≡ l.kept.items ++ filter (λ (x : Waiting). not (is_between l.from l.to x)) l.left.items

abbrev pub decreases-loop-x : goal.decreases-loop-x
decreases-loop-x l = length l.left.items
