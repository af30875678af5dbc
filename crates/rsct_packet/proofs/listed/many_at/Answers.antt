use Rattle.std.proofs.Common.{arith}
use Rattle.rsct_packet.proofs.ListedLaws.{skips_stop}
use Rattle.rsct_packet.proofs.listed.many_at.Goals as goal

pub returns-in-None : goal.returns-in-None
returns-in-None g c = skips_stop g.T.Item.read_at c.loop-i._i c.args.count c.args.bytes.now c.loop-i.rest.now c.loop-i.invariant c.in-None.ensures.value (omega arith)
