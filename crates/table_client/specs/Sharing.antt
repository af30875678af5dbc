-- What the rules make of a map that is handed to a joiner, and of one that is whole.
use Rattle.std.specs.Prelude.{◌≡◌, ℕ, ◌-◌, ◌<◌, Bool, false, List, [], ◌∷◌, Option, Some, None}
use Rattle.rsct_packet.specs.declared.ids.ProviderId.{ProviderId}
use Rattle.rsct_packet.specs.Providers.{among}
use Rattle.proposal_core.specs.declared.proposal.Proposal.{Proposal}
use Rattle.proposal_core.specs.declared.proposal.Proposal.TheVariants.{Join}
use Rattle.proposal_core.specs.declared.entry.Closed.{Closed}
use Rattle.proposal_core.specs.declared.group_state.GroupState.{GroupState}
use Rattle.proposal_core.specs.Fold.{after}
use Rattle.client_callbacks.specs.Handed.{NoticeView}
use Rattle.agreed_table.specs.Pairs.{Pairs, encoding, IsTable}
use Rattle.agreed_table.specs.Chunks.{Chunk, chunk_count, chunk_text, piece}
use Rattle.table_client.specs.Rules.{Copied, copy_after, effect_of, kept_of, received, sharing}
use Rattle.table_client.specs.Maps.{entry_map}

-- a chunk of a map
pub record IsChunkOf (m : Pairs) (c : Chunk) : Type 0 where
  pub count : c.count ≡ chunk_count m
  pub bytes : c.bytes ≡ piece c.number (encoding m)

abbrev pub AreChunksOf : Pairs → List Chunk → Type 0
AreChunksOf m [] = Unit {0}
AreChunksOf m (c ∷ chunks) = IsChunkOf m c × AreChunksOf m chunks

-- an entry that closes a phase carries the chunk of that phase, or nothing
abbrev pub CarriesChunk : Pairs → ℕ → Option (List ℕ) → Type 0
CarriesChunk m phase None = Unit {0}
CarriesChunk m phase (Some bytes) = (phase - 1 < chunk_count m) × (bytes ≡ chunk_text (phase - 1) m)

-- what is received of one map is that map
abbrev pub ReceivedIsTheMap : Type 0
ReceivedIsTheMap = (m k : Pairs) (chunks : List Chunk) → IsTable m → AreChunksOf m chunks → received chunks ≡ Some k → k ≡ m

-- what is kept of entries that carry chunks of a map are chunks of it
abbrev pub KeptAreChunks : Type 0
KeptAreChunks = (m : Pairs) (chunks : List Chunk) (x : Closed) → IsTable m → AreChunksOf m chunks → CarriesChunk m x.phase x.message → AreChunksOf m (kept_of chunks (Some x))

-- a voter whose map is whole sends a chunk of it
abbrev pub SharingIsChunk : Type 0
SharingIsChunk = (m : Pairs) (phase : ℕ) → CarriesChunk m phase (sharing (phase - 1) (Some m)).message

-- its own join takes effect
abbrev pub is_own_effect : ProviderId → Option Proposal → Bool
is_own_effect p (Some (Join ps attrs k)) = among ps p
is_own_effect p _ = false

-- a whole map goes on by the entries of the list
abbrev pub WholeGoesOn : Type 0
WholeGoesOn =
    (n : NoticeView) (c : Copied) (s : GroupState) (m : Pairs) → c.running ≡ s.running → n.after ≡ after s n.view n.place n.entry → c.map ≡ Some m
    → is_own_effect n.provider (effect_of n.entry s.running) ≡ false → (copy_after n c).map ≡ Some (entry_map s n.view n.place n.entry m)

-- what the rules keep of one map
pub record RulesKeepTheMap : Type 0 where
  pub received : ReceivedIsTheMap
  pub kept : KeptAreChunks
  pub sent : SharingIsChunk
  pub goes_on : WholeGoesOn
