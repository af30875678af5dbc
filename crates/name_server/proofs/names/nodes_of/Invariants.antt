use Rattle.std.proofs.Common.{◌≡◌, take}
use Rattle.name_server.specs.Names.{table_of}
use Rattle.name_server.proofs.names.nodes_of.Given as goal

abbrev pub invariant-loop-leader : goal.invariant-loop-leader
invariant-loop-leader l = table_of l.nodes.entries ≡ take l.leader-index l.table
