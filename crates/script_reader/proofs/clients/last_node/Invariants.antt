use Rattle.std.proofs.Common.{◌≡◌, take, find}
use Rattle.world_model.specs.Reading.{is_client, node_of_client}
use Rattle.script_reader.specs.Clients.{newest_first, client_seen}
use Rattle.script_reader.proofs.clients.last_node.Given as goal

abbrev pub invariant-loop-c : goal.invariant-loop-c
invariant-loop-c l = l.node ≡ node_of_client (find (is_client l.name) (newest_first client_seen (take l.c-index l.named)))
