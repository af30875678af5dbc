use Rattle.std.proofs.Common.{arith}
use Rattle.rsct_packet.specs.Fields.{bytes_at}
use Rattle.rsct_packet.proofs.ListedLaws.{skips_stop}
use Rattle.remote_session.proofs.messages.many_at.Goals as goal

pub returns-in-None : goal.returns-in-None
returns-in-None c = skips_stop bytes_at c.loop-i._i c.args.count c.args.bytes.now c.loop-i.rest.now c.loop-i.invariant c.in-None.ensures.value (omega arith)
