use Rattle.std.proofs.Common.{◌≡◌, take}
use Rattle.std.specs.List.{fold}
use Rattle.rsct_packet.specs.Mask.{no_nodes, with_node}
use Rattle.script_reader.proofs.events.mask_of.Given as goal

abbrev pub invariant-loop-n : goal.invariant-loop-n
invariant-loop-n l = l.mask ≡ fold with_node no_nodes (take l.n-index l.nodes)
