-- The members so far.
use Rattle.std.proofs.Common.{◌≡◌, take, map}
use Rattle.node_start.proofs.start.all_members.Given as goal

abbrev pub invariant-loop-node : goal.invariant-loop-node
invariant-loop-node l = l.members ≡ map (λ n. record { node = n; inc = 1 }) (take l.node-index l.node-items)
