use Rattle.std.proofs.Common.{◌≡◌, ◌++◌, take}
use Rattle.std.specs.Prelude.{flat_map}
use Rattle.world_model.specs.Load.{comes}
use Rattle.load_script.proofs.lines.push_comings.Given as goal

abbrev pub invariant-loop-node : goal.invariant-loop-node
invariant-loop-node l = l.lines ≡ l.initial.lines ++ flat_map comes (take l.node-index l.nodes)
