use Rattle.std.proofs.Common.{arith}
use Rattle.rsct_packet.proofs.ListedLaws.{skips_stop}
use Rattle.view_state.specs.Codec.{sized_entry_at}
use Rattle.view_exchange.proofs.in_place.read_entries.Goals as goal

pub returns-in-None : goal.returns-in-None
returns-in-None c = skips_stop sized_entry_at c.loop-i._i c.args.count c.args.bytes.now c.loop-i.rest.now c.loop-i.invariant c.in-None.ensures.value (omega arith)
