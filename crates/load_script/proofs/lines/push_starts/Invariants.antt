use Rattle.std.proofs.Common.{◌≡◌, ◌++◌, take, map}
use Rattle.world_model.specs.Load.{starts}
use Rattle.load_script.proofs.lines.push_starts.Given as goal

abbrev pub invariant-loop-node : goal.invariant-loop-node
invariant-loop-node l = l.lines ≡ l.initial.lines ++ map starts (take l.node-index l.nodes)
