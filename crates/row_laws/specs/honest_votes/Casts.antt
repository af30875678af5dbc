-- That votes which are recorded, sent, kept or counted were cast.
use Rattle.std.specs.Prelude.{◌≡◌, true, ℕ, List, Option, Some, None}
use Rattle.rsct_packet.specs.declared.ids.ProviderId.{ProviderId}
use Rattle.rsct_packet.specs.declared.ids.ProtoId.{ProtoId}
use Rattle.rsct_packet.specs.Providers.{differ}
use Rattle.rsct_packet.specs.Search.{Has}
use Rattle.proposal_core.specs.declared.entry.Vote.{Vote}
use Rattle.proposal_core.specs.declared.entry.RowVote.{RowVote}
use Rattle.proposal_core.specs.declared.entry.RowVote.TheVariants as row_vote
use Rattle.proposal_core.specs.declared.entry.Row.{Row}
use Rattle.proposal_core.specs.declared.entry.Closed.{Closed}
use Rattle.proposal_core.specs.declared.proposal.Proposal.{Proposal}
use Rattle.proposal_core.specs.declared.entry.Entry.{Entry}
use Rattle.proposal_core.specs.declared.entry.Entry.TheVariants.{Once, Begin, Phase, Approve, Reject, Late}
use Rattle.proposal_core.specs.GroupView.{GroupView}
use Rattle.proposal_core.specs.Fold.{joins_of}
use Rattle.proposal_core.specs.Lists.{list_or_new}
use Rattle.proposal_core.specs.declared.group_state.Running.{Running}
use Rattle.vote_phases.specs.declared.voter.Voter.{Voter}
use Rattle.vote_phases.specs.Tally.{TallyView}
use Rattle.client_callbacks.specs.declared.ballot.Filled.{Filled}
use Rattle.session_state.specs.declared.state.KeptBallot.{KeptBallot}
use Rattle.view_state.specs.declared.install.Part.{Part}
use Rattle.view_state.specs.declared.install.Source.{Source}
use Rattle.view_state.specs.declared.install.Install.{Install}
use Rattle.view_state.specs.declared.sides.Kept.{Kept}
use Rattle.view_state.specs.declared.sides.Side.{Side}
use Rattle.view_state.specs.declared.exchange.Exchange.{Exchange}
use Rattle.view_state.specs.declared.packet.ViewPacket.{ViewPacket}
use Rattle.view_state.specs.declared.packet.ViewPacket.TheVariants as view
use Rattle.view_state.specs.declared.views.Views.{Views}
use Rattle.node_state.specs.declared.happened.Happened.{Happened}
use Rattle.node_state.specs.declared.happened.Happened.TheVariants as happened
use Rattle.node_state.specs.declared.packet.Body.{Body}
use Rattle.node_state.specs.declared.packet.Body.TheVariants as body
use Rattle.run_safety.specs.Past.{History, earlier, EachRecord}

-- the provider cast that vote in that phase of that protocol
pub record IsCast (rs : List Happened) (p : ProviderId) (proto : ProtoId) (phase : ℕ) (v : Vote) : Type 0 where
  pub value : Option (List ℕ)
  pub message : Option (List ℕ)
  pub recorded : Has (happened.Cast p proto phase v value message) rs

-- a row that stands for a vote, and not for a default
abbrev pub RowCast : List Happened → ProtoId → ℕ → ProviderId → RowVote → Type 0
RowCast rs proto phase p (row_vote.Cast v) = IsCast rs p proto phase v
RowCast rs proto phase p (row_vote.Late d) = Unit {0}
RowCast rs proto phase p (row_vote.Failed d) = Unit {0}

abbrev pub RowsCast : List Happened → Closed → Type 0
RowsCast rs c = (r : Row) → Has r c.rows → RowCast rs c.proto c.phase r.provider r.vote

-- the providers of a join differ
abbrev pub NamesOnce : Proposal → Type 0
NamesOnce x = differ (joins_of x) ≡ true

-- the rows of an entry that closes a phase; and an entry that begins names no joiner twice
abbrev pub EntryCast : List Happened → Entry → Type 0
EntryCast rs (Once x) = NamesOnce x
EntryCast rs (Begin x) = NamesOnce x
EntryCast rs (Phase c) = RowsCast rs c
EntryCast rs (Approve c) = RowsCast rs c
EntryCast rs (Reject c) = RowsCast rs c
EntryCast rs (Late proto phase ps) = Unit {0}

abbrev pub EntriesCast : List Happened → List Entry → Type 0
EntriesCast rs es = (e : Entry) → Has e es → EntryCast rs e

-- ---- records

-- each vote of an entry that is put was cast before
abbrev pub RecordCast : List Happened → History → Happened → Type 0
RecordCast now before (happened.Put n v g i e) = EntryCast (earlier now before) e
RecordCast now before _ = Unit {0}

-- The votes that entries record were really cast: for each entry that closes a phase, where a node puts it, each row that
-- stands for a vote of a provider has an earlier record that the provider cast this vote, in that phase of that protocol. And an
-- entry that begins names no joiner twice.
abbrev pub VotesWereCast : History → Type 0
VotesWereCast h = EachRecord RecordCast h

-- ---- what nodes have and send

abbrev pub ListCast : List Happened → Option GroupView → Type 0
ListCast rs l = EntriesCast rs (list_or_new l).entries

abbrev pub PartsCast : List Happened → List Part → Type 0
PartsCast rs ps = (p : Part) → Has p ps → EntriesCast rs p.entries

abbrev pub InstallCast : List Happened → Install → Type 0
InstallCast rs i = (s : Source) → Has s i.sources → PartsCast rs s.parts

abbrev pub ExchangeCast : List Happened → Exchange → Type 0
ExchangeCast rs x = (s : Side) → Has s x.sides → (k : Kept) → Has k s.parts → EntriesCast rs k.part.entries

abbrev pub ViewPacketCast : List Happened → ViewPacket → Type 0
ViewPacketCast rs (view.Prepare v mask) = Unit {0}
ViewPacketCast rs (view.Answer v old parts) = PartsCast rs parts
ViewPacketCast rs (view.Refuse v n) = Unit {0}
ViewPacketCast rs (view.Install i) = InstallCast rs i
ViewPacketCast rs (view.Taken v) = Unit {0}

-- a vote that is sent, and each vote of the entries that are
abbrev pub BodyCast : List Happened → Body → Type 0
BodyCast rs (body.View y) = ViewPacketCast rs y
BodyCast rs (body.Entry v g place stable e) = EntryCast rs e
BodyCast rs (body.Vote v g proto phase p vote value message) = IsCast rs p proto phase vote
BodyCast rs _ = Unit {0}

abbrev pub BallotCast : List Happened → ProviderId → ProtoId → ℕ → Option Filled → Type 0
BallotCast rs p proto phase None = Unit {0}
BallotCast rs p proto phase (Some b) = IsCast rs p proto phase b.vote

-- a kept ballot
abbrev pub KeptCast : List Happened → KeptBallot → Type 0
KeptCast rs k = BallotCast rs k.provider k.proto k.phase k.ballot.filled

abbrev pub GatheringCast : List Happened → Option Exchange → Type 0
GatheringCast rs None = Unit {0}
GatheringCast rs (Some x) = ExchangeCast rs x

abbrev pub InstallIfCast : List Happened → Option Install → Type 0
InstallIfCast rs None = Unit {0}
InstallIfCast rs (Some i) = InstallCast rs i

-- what a node gathers for a view, and the install that it keeps
abbrev pub ViewsCast : List Happened → Views → Type 0
ViewsCast rs v = GatheringCast rs v.gathering × InstallIfCast rs v.install

abbrev pub VoterCast : List Happened → Running → ProviderId → Option RowVote → Type 0
VoterCast rs run p None = Unit {0}
VoterCast rs run p (Some v) = RowCast rs run.proto run.phase p v

-- the votes of a tally of the phase that runs
abbrev pub TallyCast : List Happened → Option TallyView → Option Running → Type 0
TallyCast rs None run = Unit {0}
TallyCast rs (Some t) None = Unit {0}
TallyCast rs (Some t) (Some run) = (x : Voter) → Has x t.voters → VoterCast rs run x.provider x.vote
