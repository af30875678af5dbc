use Rattle.rsct_packet.specs.Listed.{Skips}
use Rattle.view_state.specs.Codec.{source_at_front}
use Rattle.view_exchange.proofs.sources_in_place.read_so_many.Given as goal

abbrev pub invariant-loop-i : goal.invariant-loop-i
invariant-loop-i l = Skips source_at_front l._i l.bytes l.rest
