-- What a table client makes of what it is handed, a word for each of its rules, and what it fills into its ballots.
use Rattle.std.specs.Prelude.{◌≡◌, ℕ, ◌+◌, ◌-◌, ◌==◌, ◌&&◌, Bool, true, false, not, List, [], ◌∷◌, ◌++◌, length, find, flat_map, Option, Some, None, nat_lt, if◌then◌else◌}
use Rattle.std.specs.List.{fold, list_all}
use Rattle.std.specs.Option.{option_map, option_and_then, unwrap_or}
use Rattle.rsct_packet.specs.declared.ids.ProviderId.{ProviderId}
use Rattle.rsct_packet.specs.declared.ids.ViewId.{ViewId}
use Rattle.rsct_packet.specs.Lists.{is_empty, drop_where}
use Rattle.rsct_packet.specs.Providers.{among, same_provider}
use Rattle.rsct_packet.specs.Search.{insert_before}
use Rattle.proposal_core.specs.declared.proposal.Proposal.{Proposal}
use Rattle.proposal_core.specs.declared.proposal.Proposal.TheVariants.{Join, Message}
use Rattle.proposal_core.specs.declared.entry.Closed.{Closed}
use Rattle.proposal_core.specs.declared.entry.Entry.{Entry}
use Rattle.proposal_core.specs.declared.entry.Entry.TheVariants.{Once, Phase, Approve, Reject}
use Rattle.proposal_core.specs.declared.entry.Vote.{Vote}
use Rattle.proposal_core.specs.declared.entry.Vote.TheVariants as vote
use Rattle.proposal_core.specs.declared.group_state.Running.{Running}
use Rattle.proposal_core.specs.Fold.{joins_of}
use Rattle.client_callbacks.specs.declared.ballot.Filled.{Filled}
use Rattle.client_callbacks.specs.declared.told.Told.{Told}
use Rattle.client_callbacks.specs.declared.told.Told.TheVariants as told
use Rattle.client_callbacks.specs.declared.told.Why.{Why}
use Rattle.client_callbacks.specs.declared.told.Why.TheVariants as why
use Rattle.client_callbacks.specs.Handed.{NoticeView, Handed, Notified, Informed, phase_in}
use Rattle.agreed_table.specs.Pairs.{Pairs, decoded, written}
use Rattle.agreed_table.specs.Chunks.{Chunk, chunk_count, chunk_text, chunk_in}

-- the copy of a provider: the place up to which it heard, its map where that is whole, the protocol that ran then, and the
-- chunks of its own join so far
pub record Copied : Type 0 where
  pub provider : ProviderId
  pub group : List ℕ
  pub view : ViewId
  pub len : ℕ
  pub map : Option Pairs
  pub running : Option Running
  pub chunks : List Chunk

abbrev pub is_copy : ProviderId → Copied → Bool
is_copy p c = same_provider c.provider p

abbrev pub fresh_copy : NoticeView → Copied
fresh_copy n = record { provider = n.provider; group = n.group; view = n.view; len = 0; map = None; running = None; chunks = [] }

-- the copy before a notice
abbrev pub copy_before : NoticeView → List Copied → Copied
copy_before n copies = unwrap_or (find (is_copy n.provider) copies) (fresh_copy n)

-- ---- the ballot

abbrev pub filling : Vote → Option (List ℕ) → Filled
filling v message = record { vote = v; value = None; message = message }

abbrev pub is_join : Proposal → Bool
is_join x = not (is_empty (joins_of x))

-- a join runs, and the provider is not among its joiners
abbrev pub others_join : ProviderId → Option Running → Bool
others_join p None = false
others_join p (Some run) = is_join run.proposal && not (among (joins_of run.proposal) p)

-- chunk k goes with the vote, which is CONTINUE where there is a chunk after it
abbrev pub sharing : ℕ → Option Pairs → Filled
sharing k None = filling vote.Approve None
sharing k (Some map) =
    if nat_lt k (chunk_count map)
    then filling (if nat_lt (k + 1) (chunk_count map) then vote.Continue else vote.Approve) (Some (chunk_text k map))
    else filling vote.Approve None

abbrev pub vote_for : NoticeView → Copied → Filled
vote_for n c = if others_join n.provider n.after.running then sharing (phase_in n.after.running - 1) c.map else filling vote.Approve None

-- where a vote is asked for
abbrev pub filled_from : NoticeView → Copied → Option Filled
filled_from n c = if n.votes then Some (vote_for n c) else None

-- where a vote is asked for it approves; and it hands on its map to others that join
unfoldable pub filled_for : NoticeView → List Copied → Option Filled
filled_for n copies = filled_from n (copy_before n copies)

-- ---- the chunks of its own join

abbrev pub closed_in : Entry → Option Closed
closed_in (Phase c) = Some c
closed_in (Approve c) = Some c
closed_in (Reject c) = Some c
closed_in _ = None

abbrev pub is_own : ProviderId → Option Running → Bool
is_own p None = false
is_own p (Some run) = among (joins_of run.proposal) p

abbrev pub counts_after : List Chunk → Chunk → Bool
counts_after [] c = true
counts_after (b ∷ chunks) c = c.count == b.count

abbrev pub kept_if : List Chunk → ℕ → Option Chunk → List Chunk
kept_if chunks k None = chunks
kept_if chunks k (Some c) = if (c.number == k) && (nat_lt k c.count && counts_after chunks c) then chunks ++ c ∷ [] else chunks

abbrev pub kept_of : List Chunk → Option Closed → List Chunk
kept_of chunks None = chunks
kept_of chunks (Some x) = kept_if chunks (x.phase - 1) (option_and_then chunk_in x.message)

-- chunk k counts in the entry that closes phase k + 1 of its own join
unfoldable pub with_chunk : NoticeView → Copied → Copied
with_chunk n c = if is_own n.provider c.running then record c { chunks = kept_of c.chunks (closed_in n.entry) } else c

-- ---- what takes effect

abbrev pub effect_of : Entry → Option Running → Option Proposal
effect_of (Once x) run = Some x
effect_of (Approve c) run = option_map (λ (r : Running). r.proposal) run
effect_of _ run = None

abbrev pub in_turn : ℕ → List Chunk → Bool
in_turn k [] = true
in_turn k (c ∷ chunks) = (c.number == k) && in_turn (k + 1) chunks

abbrev pub all_came : List Chunk → Bool
all_came [] = false
all_came (c ∷ chunks) = in_turn 0 (c ∷ chunks) && (length (c ∷ chunks) == c.count)

-- the map that the chunks say, where all came
abbrev pub received : List Chunk → Option Pairs
received chunks = if all_came chunks then decoded (flat_map (λ (c : Chunk). c.bytes) chunks) else None

-- as its own join takes effect: empty where nobody else is a member, else what was received
abbrev pub joined_map : NoticeView → Copied → List ProviderId → Option Pairs
joined_map n c ps = if list_all (among ps) n.after.members then Some [] else received c.chunks

abbrev pub taken : NoticeView → Copied → Option Proposal → Copied
taken n c (Some (Join ps attrs k)) = if among ps n.provider then record c { map = joined_map n c ps; chunks = [] } else c
taken n c (Some (Message p r bytes)) = record c { map = option_map (written bytes) c.map }
taken n c _ = c

unfoldable pub with_effect : NoticeView → Copied → Copied
with_effect n c = taken n c (effect_of n.entry c.running)

-- ---- a group without members, and where the copy stands

-- a notice after which the group has no members makes any map whole and empty
unfoldable pub with_members : NoticeView → Copied → Copied
with_members n c = if is_empty n.after.members then record c { map = Some [] } else c

unfoldable pub with_place : NoticeView → Copied → Copied
with_place n c = record c { view = n.view; len = n.place + 1; running = n.after.running }

unfoldable pub copy_after : NoticeView → Copied → Copied
copy_after n c = with_place n (with_members n (with_effect n (with_chunk n c)))

-- ---- all copies

abbrev pub provider_lt : ProviderId → ProviderId → Bool
provider_lt a b =
    if a.node == b.node
    then (if a.inc == b.inc then (if a.instance == b.instance then nat_lt a.join b.join else nat_lt a.instance b.instance) else nat_lt a.inc b.inc)
    else nat_lt a.node b.node

abbrev pub comes_after : ProviderId → Copied → Bool
comes_after p c = provider_lt p c.provider

-- in ascending order of providers
abbrev pub with_copy : Copied → List Copied → List Copied
with_copy c copies = insert_before (comes_after c.provider) c (drop_where (is_copy c.provider) copies)

unfoldable pub noticed : NoticeView → List Copied → List Copied
noticed n copies = with_copy (copy_after n (copy_before n copies)) copies

abbrev pub is_dissolved : Why → Bool
is_dissolved why.Dissolved = true
is_dissolved _ = false

unfoldable pub informed : Told → List Copied → List Copied
informed (told.Refused p r y) copies = if is_dissolved y then drop_where (is_copy p) copies else copies
informed _ copies = copies

abbrev pub copies_then : List Copied → Handed → List Copied
copies_then copies (Notified n filled) = noticed n copies
copies_then copies (Informed t) = informed t copies

-- the copies of a client that was handed this
unfoldable pub copies_after : List Handed → List Copied
copies_after hs = fold copies_then [] hs

-- and it filled each ballot as the rules say of its copies before
abbrev pub FilledBy : List Copied → List Handed → Type 0
FilledBy copies [] = Unit {0}
FilledBy copies (Notified n filled ∷ hs) = (filled ≡ filled_for n copies) × FilledBy (noticed n copies) hs
FilledBy copies (Informed t ∷ hs) = FilledBy (informed t copies) hs

-- the copies of a client are what its rules make of what it was handed, and so is each ballot in that
pub record ByRules (cs : List Copied) (hs : List Handed) : Type 0 where
  pub copies : cs ≡ copies_after hs
  pub ballots : FilledBy [] hs

-- opens each word of this file, for a computation
unfoldable pub rules_open : Unit {0}
unfolding filled_for with_chunk with_effect with_members with_place copy_after noticed informed copies_after
rules_open = tt
