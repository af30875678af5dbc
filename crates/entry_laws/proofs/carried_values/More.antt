-- What an entry carries stays so where more is recorded.
use Rattle.std.proofs.Common.{ℕ, List, [], ◌∷◌, Option, Some, None}
use Rattle.rsct_packet.specs.declared.ids.ProviderId.{ProviderId}
use Rattle.rsct_packet.specs.declared.ids.ProtoId.{ProtoId}
use Rattle.rsct_packet.specs.Search.{Has}
use Rattle.proposal_core.specs.declared.entry.RowVote.{RowVote}
use Rattle.proposal_core.specs.declared.entry.RowVote.TheVariants as row_vote
use Rattle.proposal_core.specs.declared.entry.Row.{Row}
use Rattle.proposal_core.specs.declared.entry.Entry.{Entry}
use Rattle.proposal_core.specs.declared.entry.Entry.TheVariants.{Once, Begin, Phase, Approve, Reject, Late}
use Rattle.node_state.specs.declared.happened.Happened.{Happened}
use Rattle.entry_laws.specs.carried_values.Carried.{Pick, the_value, the_message, OwnOr, RowGives, RowsGive, EntryCarries}

module _ (rs ts : List Happened) (more : (r : Happened) → Has r rs → Has r ts) where
  own_on : (o : Option (List ℕ)) (P Q : Option (List ℕ) → Type 0) (part : Option (List ℕ)) → (P part → Q part) → OwnOr o P part → OwnOr o Q part
  own_on None P Q part f k = f k
  own_on (Some z) P Q part f k = k

  rows_on : (pick : Pick) (proto : ProtoId) (phase : ℕ) (rows : List Row) (part : Option (List ℕ)) → RowsGive pick rs proto phase rows part → RowsGive pick ts proto phase rows part
  rows_on pick proto phase [] part k = k
  rows_on pick proto phase (r ∷ rows) part k = by r.provider r.vote k (rows_on pick proto phase rows part)
    where
      by : (p : ProviderId) (v : RowVote) → RowGives pick rs proto phase p v (RowsGive pick rs proto phase rows) part → (RowsGive pick rs proto phase rows part → RowsGive pick ts proto phase rows part) → RowGives pick ts proto phase p v (RowsGive pick ts proto phase rows) part
      by p (row_vote.Cast v) k rest = (k.0, k.1, more _ k.2, own_on (pick k.0 k.1) (RowsGive pick rs proto phase rows) (RowsGive pick ts proto phase rows) part rest k.3)
      by p (row_vote.Late d) k rest = rest k
      by p (row_vote.Failed d) k rest = rest k

  pub entry_on : (e : Entry) → EntryCarries rs e → EntryCarries ts e
  entry_on (Once x) k = tt
  entry_on (Begin x) k = tt
  entry_on (Phase c) k = (rows_on the_value c.proto c.phase c.rows c.value k.0, rows_on the_message c.proto c.phase c.rows c.message k.1)
  entry_on (Approve c) k = (rows_on the_value c.proto c.phase c.rows c.value k.0, rows_on the_message c.proto c.phase c.rows c.message k.1)
  entry_on (Reject c) k = (k.0, rows_on the_message c.proto c.phase c.rows c.message k.1)
  entry_on (Late proto phase ps) k = tt
