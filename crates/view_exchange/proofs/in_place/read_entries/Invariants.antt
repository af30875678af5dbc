use Rattle.rsct_packet.specs.Listed.{Skips}
use Rattle.view_state.specs.Codec.{sized_entry_at}
use Rattle.view_exchange.proofs.in_place.read_entries.Given as goal

abbrev pub invariant-loop-i : goal.invariant-loop-i
invariant-loop-i l = Skips sized_entry_at l._i l.bytes l.rest
