-- What an entry that closes a phase carries: of the earliest ballot, in the order of its rows, that carries it.
use Rattle.std.specs.Prelude.{ℕ, ◌≡◌, List, [], ◌∷◌, Option, Some, None}
use Rattle.rsct_packet.specs.declared.ids.ProviderId.{ProviderId}
use Rattle.rsct_packet.specs.declared.ids.ProtoId.{ProtoId}
use Rattle.rsct_packet.specs.Search.{Has}
use Rattle.proposal_core.specs.declared.entry.RowVote.{RowVote}
use Rattle.proposal_core.specs.declared.entry.RowVote.TheVariants as row_vote
use Rattle.proposal_core.specs.declared.entry.Row.{Row}
use Rattle.proposal_core.specs.declared.entry.Closed.{Closed}
use Rattle.proposal_core.specs.declared.entry.Entry.{Entry}
use Rattle.proposal_core.specs.declared.entry.Entry.TheVariants.{Once, Begin, Phase, Approve, Reject, Late}
use Rattle.client_callbacks.specs.declared.ballot.Filled.{Filled}
use Rattle.session_state.specs.declared.state.KeptBallot.{KeptBallot}
use Rattle.node_state.specs.declared.config.Config.{Config}
use Rattle.node_state.specs.declared.packet.Body.{Body}
use Rattle.node_state.specs.declared.packet.Body.TheVariants as body
use Rattle.node_state.specs.declared.packet.Packet.{Packet}
use Rattle.node_state.specs.declared.state.Core.{Core}
use Rattle.node_state.specs.declared.happened.Happened.{Happened}
use Rattle.node_state.specs.declared.happened.Happened.TheVariants as happened
use Rattle.run_safety.specs.Past.{History, records_of, earlier, EachRecord}
use Rattle.step_refinement.specs.Tied.{Scene}
use Rattle.step_refinement.specs.Runs.{Reached}

-- which part of a ballot, of its value and its message
abbrev pub Pick : Type 0
Pick = Option (List ℕ) → Option (List ℕ) → Option (List ℕ)

abbrev pub the_value : Pick
the_value value message = value

abbrev pub the_message : Pick
the_message value message = message

-- its own where it has one, else what the later rows give
abbrev pub OwnOr : Option (List ℕ) → (Option (List ℕ) → Type 0) → Option (List ℕ) → Type 0
OwnOr None rest part = rest part
OwnOr (Some own) rest part = part ≡ Some own

-- a row that stands for a vote has an earlier record of the ballot, with that vote; a default carries nothing
abbrev pub RowGives : Pick → List Happened → ProtoId → ℕ → ProviderId → RowVote → (Option (List ℕ) → Type 0) → Option (List ℕ) → Type 0
RowGives pick rs proto phase p (row_vote.Cast v) rest part =
    (value : Option (List ℕ)) × (message : Option (List ℕ)) × Has (happened.Cast p proto phase v value message) rs × OwnOr (pick value message) rest part
RowGives pick rs proto phase p (row_vote.Late d) rest part = rest part
RowGives pick rs proto phase p (row_vote.Failed d) rest part = rest part

-- the part is that of the earliest row whose ballot has one, and none where none has one
abbrev pub RowsGive : Pick → List Happened → ProtoId → ℕ → List Row → Option (List ℕ) → Type 0
RowsGive pick rs proto phase [] part = part ≡ None
RowsGive pick rs proto phase (r ∷ rows) part = RowGives pick rs proto phase r.provider r.vote (RowsGive pick rs proto phase rows) part

abbrev pub Gives : Pick → List Happened → Closed → Option (List ℕ) → Type 0
Gives pick rs c part = RowsGive pick rs c.proto c.phase c.rows part

-- the value and the message of an entry that closes a phase; a rejection has no value
abbrev pub EntryCarries : List Happened → Entry → Type 0
EntryCarries rs (Once x) = Unit {0}
EntryCarries rs (Begin x) = Unit {0}
EntryCarries rs (Phase c) = Gives the_value rs c c.value × Gives the_message rs c c.message
EntryCarries rs (Approve c) = Gives the_value rs c c.value × Gives the_message rs c c.message
EntryCarries rs (Reject c) = (c.value ≡ None) × Gives the_message rs c c.message
EntryCarries rs (Late proto phase ps) = Unit {0}

abbrev pub RecordCarries : List Happened → History → Happened → Type 0
RecordCarries now before (happened.Put n v g i e) = EntryCarries (earlier now before) e
RecordCarries now before _ = Unit {0}

-- The value of an entry that goes on to a next phase or approves, and the message of each that closes a phase, where a node
-- puts it, are those of the earliest row that stands for a vote whose ballot, cast before, has one; and none where none has.
abbrev pub FirstBallotsCarry : History → Type 0
FirstBallotsCarry h = EachRecord RecordCarries h

-- so in every scene that events lead to
abbrev pub FirstBallotsAlwaysCarry : Type 0
FirstBallotsAlwaysCarry = (c : Config) (w : Scene) → Reached c w → FirstBallotsCarry w.before

-- ---- ballots

-- what was filled in is recorded, with its value and message
abbrev pub BallotTold : List Happened → ProviderId → ProtoId → ℕ → Option Filled → Type 0
BallotTold rs p proto phase None = Unit {0}
BallotTold rs p proto phase (Some b) = Has (happened.Cast p proto phase b.vote b.value b.message) rs

abbrev pub KeptTold : List Happened → KeptBallot → Type 0
KeptTold rs k = BallotTold rs k.provider k.proto k.phase k.ballot.filled

-- of a ballot that is sent
abbrev pub BodyTold : List Happened → Body → Type 0
BodyTold rs (body.Vote v g proto phase p vote value message) = Has (happened.Cast p proto phase vote value message) rs
BodyTold rs _ = Unit {0}

-- each ballot that was sent was cast as it stands: with its vote, its value and its message
abbrev pub SentBallotsAreTold : Type 0
SentBallotsAreTold = (c : Config) (w : Scene) → Reached c w → (p : Packet) → Has p w.sent → BodyTold (records_of w.before) p.body

-- so was each that a node keeps
abbrev pub KeptBallotsAreTold : Type 0
KeptBallotsAreTold =
    (c : Config) (w : Scene) → Reached c w → (n : ℕ) (s : Core) → w.cores n ≡ Some s → (k : KeptBallot) → Has k s.sessions.kept → KeptTold (records_of w.before) k
