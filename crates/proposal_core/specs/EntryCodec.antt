-- How entries are spelled.
use Rattle.std.specs.Prelude.{ℕ, ◌==◌, IsTrue, is_none, List, [], ◌∷◌, ◌++◌, length, Option, Some, None, if◌then◌else◌}
use Rattle.std.specs.Int.{w8, w16}
use Rattle.rsct_packet.specs.declared.ids.ProviderId.{ProviderId}
use Rattle.rsct_packet.specs.declared.ids.ProtoId.{ProtoId}
use Rattle.rsct_packet.specs.Reading.{number_at, both_at, made_at, decoded_at, guarded_at, keyed_at, counted_at, optional_at}
use Rattle.rsct_packet.specs.Format.{EachFits, OptionFits, counted_text, optional_text}
use Rattle.rsct_packet.specs.Fields.{u8_text, u16_text, bytes_at, bytes_text, AreShort, IsU8, IsU16, provider_at, provider_text, IsProvider, proto_at, proto_text, IsProto, some_providers_at, providers_text, IsSomeProviders}
use Rattle.group_attr.specs.declared.attrs.DefaultVote.TheVariants as default_vote
use Rattle.proposal_core.specs.declared.entry.Vote.TheVariants as vote
use Rattle.proposal_core.specs.declared.entry.RowVote.{RowVote}
use Rattle.proposal_core.specs.declared.entry.RowVote.TheVariants as row_vote
use Rattle.proposal_core.specs.declared.entry.Row.{Row}
use Rattle.proposal_core.specs.declared.entry.Closed.{Closed}
use Rattle.proposal_core.specs.declared.entry.Entry.{Entry}
use Rattle.proposal_core.specs.declared.entry.Entry.TheVariants.{Once, Begin, Phase, Approve, Reject, Late}
use Rattle.proposal_core.specs.ProposalCodec.{proposal_at, proposal_text, IsProposal}

-- what stands for a voter: 1 to 3 its vote, 4 and 5 late, 6 and 7 failed

abbrev pub row_vote_number : RowVote → ℕ
row_vote_number (row_vote.Cast vote.Approve) = 1
row_vote_number (row_vote.Cast vote.Continue) = 2
row_vote_number (row_vote.Cast vote.Reject) = 3
row_vote_number (row_vote.Late default_vote.Approve) = 4
row_vote_number (row_vote.Late default_vote.Reject) = 5
row_vote_number (row_vote.Failed default_vote.Approve) = 6
row_vote_number (row_vote.Failed default_vote.Reject) = 7

abbrev pub row_vote_of : ℕ → Option RowVote
row_vote_of n =
    if n == 1 then Some (row_vote.Cast vote.Approve)
    else if n == 2 then Some (row_vote.Cast vote.Continue)
    else if n == 3 then Some (row_vote.Cast vote.Reject)
    else if n == 4 then Some (row_vote.Late default_vote.Approve)
    else if n == 5 then Some (row_vote.Late default_vote.Reject)
    else if n == 6 then Some (row_vote.Failed default_vote.Approve)
    else if n == 7 then Some (row_vote.Failed default_vote.Reject)
    else None

unfoldable pub row_vote_at : List ℕ → Option (RowVote × List ℕ)
row_vote_at bytes = decoded_at row_vote_of (number_at w8) bytes

abbrev pub row_of_parts : ProviderId × RowVote → Row
row_of_parts x = record { provider = x.0; vote = x.1 }

abbrev pub row_at : List ℕ → Option (Row × List ℕ)
row_at bytes = made_at row_of_parts (both_at provider_at row_vote_at) bytes

abbrev pub row_text : Row → List ℕ
row_text row = provider_text row.provider ++ u8_text (row_vote_number row.vote)

abbrev pub IsRow : Row → Type 0
IsRow row = IsProvider row.provider

-- how a phase closed

abbrev pub closed_of_parts : ProtoId × (ℕ × (List Row × (Option (List ℕ) × Option (List ℕ)))) → Closed
closed_of_parts x = record { proto = x.0; phase = x.1.0; rows = x.1.1.0; value = x.1.1.1.0; message = x.1.1.1.1 }

unfoldable pub closed_at : List ℕ → Option (Closed × List ℕ)
closed_at bytes = made_at closed_of_parts (both_at proto_at (both_at (number_at w16) (both_at (counted_at w8 row_at) (both_at (optional_at bytes_at) (optional_at bytes_at))))) bytes

unfoldable pub closed_text : Closed → List ℕ
closed_text c = proto_text c.proto ++ (u16_text c.phase ++ (counted_text w8 row_text c.rows ++ (optional_text bytes_text c.value ++ optional_text bytes_text c.message)))

-- at most 255 rows
pub record IsClosed (c : Closed) : Type 0 where
  pub proto : IsProto c.proto
  pub phase : IsU16 c.phase
  pub few : IsU8 (length c.rows)
  pub rows : EachFits IsRow c.rows
  pub value : OptionFits AreShort c.value
  pub message : OptionFits AreShort c.message

-- what each kind has behind its byte

unfoldable pub once_at : List ℕ → Option (Entry × List ℕ)
once_at bytes = made_at Once proposal_at bytes

unfoldable pub begin_at : List ℕ → Option (Entry × List ℕ)
begin_at bytes = made_at Begin proposal_at bytes

unfoldable pub phase_at : List ℕ → Option (Entry × List ℕ)
phase_at bytes = made_at Phase closed_at bytes

unfoldable pub approve_at : List ℕ → Option (Entry × List ℕ)
approve_at bytes = made_at Approve closed_at bytes

-- a rejection has no value
unfoldable pub reject_at : List ℕ → Option (Entry × List ℕ)
reject_at bytes = made_at Reject (guarded_at (λ c. is_none c.value) closed_at) bytes

unfoldable pub late_at : List ℕ → Option (Entry × List ℕ)
late_at bytes = made_at (λ x. Late x.0 x.1.0 x.1.1) (both_at proto_at (both_at (number_at w16) some_providers_at)) bytes

abbrev pub entry_body_at : ℕ → List ℕ → Option (Entry × List ℕ)
entry_body_at k bytes =
    if k == 1 then once_at bytes
    else if k == 2 then begin_at bytes
    else if k == 3 then phase_at bytes
    else if k == 4 then approve_at bytes
    else if k == 5 then reject_at bytes
    else if k == 6 then late_at bytes
    else None

unfoldable pub entry_front_at : List ℕ → Option (Entry × List ℕ)
entry_front_at bytes = keyed_at (number_at w8) entry_body_at bytes

abbrev pub entry_kind : Entry → ℕ
entry_kind (Once x) = 1
entry_kind (Begin x) = 2
entry_kind (Phase c) = 3
entry_kind (Approve c) = 4
entry_kind (Reject c) = 5
entry_kind (Late proto phase ps) = 6

abbrev pub entry_body : Entry → List ℕ
entry_body (Once x) = proposal_text x
entry_body (Begin x) = proposal_text x
entry_body (Phase c) = closed_text c
entry_body (Approve c) = closed_text c
entry_body (Reject c) = closed_text c
entry_body (Late proto phase ps) = proto_text proto ++ (u16_text phase ++ providers_text ps)

unfoldable pub entry_text : Entry → List ℕ
entry_text e = u8_text (entry_kind e) ++ entry_body e

-- entries that have a spelling
abbrev pub IsEntry : Entry → Type 0
IsEntry (Once x) = IsProposal x
IsEntry (Begin x) = IsProposal x
IsEntry (Phase c) = IsClosed c
IsEntry (Approve c) = IsClosed c
IsEntry (Reject c) = IsClosed c × IsTrue (is_none c.value)
IsEntry (Late proto phase ps) = IsProto proto × (IsU16 phase × IsSomeProviders ps)

-- an entry that takes all of the bytes
abbrev pub whole : {A : Type 0} → Option (A × List ℕ) → Option A
whole None = None
whole (Some (x, [])) = Some x
whole (Some (x, b ∷ rest)) = None
