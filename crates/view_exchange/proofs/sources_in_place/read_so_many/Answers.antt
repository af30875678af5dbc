use Rattle.std.proofs.Common.{arith}
use Rattle.rsct_packet.proofs.ListedLaws.{skips_stop}
use Rattle.view_state.specs.Codec.{source_at_front}
use Rattle.view_exchange.proofs.sources_in_place.read_so_many.Goals as goal

pub returns-in-None : goal.returns-in-None
returns-in-None c = skips_stop source_at_front c.loop-i._i c.args.count c.args.bytes.now c.loop-i.rest.now c.loop-i.invariant c.in-None.ensures (omega arith)
