use Rattle.rsct_packet.proofs.ListedLaws.{listed_length}
use Rattle.view_state.specs.Codec.{sized_entry_at}
use Rattle.view_exchange.proofs.in_place.EntriesRef.len.Goals as goal

pub returns : goal.returns
returns c = listed_length sized_entry_at _ _ _ c.self.invariant c.self.view_is
