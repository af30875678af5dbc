-- What the entries that close the phases of a protocol carry, where each message that is cast is a chunk.
use Rattle.std.specs.Prelude.{◌≡◌, ℕ, ◌+◌, List, ◌∷◌, ◌++◌, Option, Some}
use Rattle.rsct_packet.specs.declared.ids.ViewId.{ViewId}
use Rattle.rsct_packet.specs.declared.ids.ProtoId.{ProtoId}
use Rattle.rsct_packet.specs.declared.ids.ProviderId.{ProviderId}
use Rattle.rsct_packet.specs.Search.{Has}
use Rattle.proposal_core.specs.declared.proposal.Proposal.{Proposal}
use Rattle.proposal_core.specs.declared.entry.Closed.{Closed}
use Rattle.proposal_core.specs.declared.entry.Entry.{Entry}
use Rattle.proposal_core.specs.declared.entry.Vote.{Vote}
use Rattle.proposal_core.specs.declared.group_state.Running.{Running}
use Rattle.proposal_core.specs.Fold.{present}
use Rattle.node_state.specs.declared.config.Config.{Config}
use Rattle.node_state.specs.declared.happened.Happened.{Happened}
use Rattle.node_state.specs.declared.happened.Happened.TheVariants.{Asked, Cast, Put}
use Rattle.agreed_table.specs.Pairs.{Pairs}
use Rattle.table_client.specs.Rules.{closed_in}
use Rattle.table_client.specs.Sharing.{CarriesChunk}
use Rattle.run_safety.specs.Past.{state_at}
use Rattle.world_laws.specs.world_answers.Answers.{Answered, events_in, answered_after}
use Rattle.world_safety.specs.Events.{AllMayHappen}
use Rattle.table_laws.specs.Maps.{MapIs, Reaches}

-- the provider asked in this group for its join
abbrev pub AskedToJoin : List Happened → List ℕ → ProviderId → Type 0
AskedToJoin rs g p = (x : Proposal) × Has (Asked p p.join g x) rs

-- before an entry that a node put, whoever is present in its group's state asked there for its join
abbrev pub ThePresentAsked : Type 0
ThePresentAsked =
    (c : Config) (es : List Answered) → AllMayHappen c (events_in es) → (g : List ℕ) (n : ℕ) (v : ViewId) (i : ℕ) (p : ProviderId) → Reaches (answered_after c es).trace g n v i
    → Has p (present (state_at n v g i (answered_after c es).trace)) → AskedToJoin (answered_after c es).trace g p

-- the message is the chunk of the phase of a map of the provider's group: the one directly behind the Begin of the protocol
pub record IsChunk (rs : List Happened) (p : ProviderId) (proto : ProtoId) (phase : ℕ) (bytes : List ℕ) : Type 0 where
  pub group : List ℕ
  pub asked : AskedToJoin rs group p
  pub map : Pairs
  pub is : MapIs rs group proto.view (proto.place + 1) map
  pub chunk : CarriesChunk map phase (Some bytes)

-- so is each message that is cast in these records
abbrev pub CastsAreChunks : List Happened → List Happened → Type 0
CastsAreChunks rs older =
    (p : ProviderId) (proto : ProtoId) (phase : ℕ) (vote : Vote) (value : Option (List ℕ)) (bytes : List ℕ) → Has (Cast p proto phase vote value (Some bytes)) older → IsChunk rs p proto phase bytes

-- Where that holds of the records before it, an entry that closes a phase carries the chunk of that phase of the map of its group, the one
-- directly behind the Begin of what runs, or nothing.
abbrev pub ChunksAreCarried : Type 0
ChunksAreCarried =
    (c : Config) (es : List Answered) → AllMayHappen c (events_in es) → (g : List ℕ) (n : ℕ) (v : ViewId) (i : ℕ) (e : Entry) (closed : Closed) (run : Running) (m : Pairs) (newer older : List Happened) → (answered_after c es).trace ≡ newer ++ Put n v g i e ∷ older
    → CastsAreChunks (answered_after c es).trace older → closed_in e ≡ Some closed → (state_at n v g i (answered_after c es).trace).running ≡ Some run → MapIs (answered_after c es).trace g run.proto.view (run.proto.place + 1) m → CarriesChunk m closed.phase closed.message
