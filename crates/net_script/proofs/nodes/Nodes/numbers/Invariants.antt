use Rattle.std.proofs.Common.{◌≡◌, map, take}
use Rattle.net_script.specs.Standing.{number_in}
use Rattle.net_script.proofs.nodes.Nodes.numbers.Given as goal

abbrev pub invariant-loop-x : goal.invariant-loop-x
invariant-loop-x g l = l.ns.items ≡ map number_in (take l.x-index l.x-items)
