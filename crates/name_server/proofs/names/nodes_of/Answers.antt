use Rattle.std.proofs.Common.{arith}
use Rattle.name_server.proofs.NameLaws.{fresh_at}
use Rattle.name_server.proofs.names.nodes_of.Goals as goal

pub keep-requires : goal.keep-requires
keep-requires c =
    rw (c.bytes.ensures.value, c.loop-leader.invariant)
    (fresh_at c.args.table.now c.loop-leader.leader-index c.leader-item.result c.requires (omega arith) c.leader-item.is)
