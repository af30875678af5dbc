-- What the parts of a record have to be for it to be a line: what they have to be to stand in a packet, and bytes below 256.
use Rattle.std.specs.Prelude.{ℕ, ◌≡◌, ◌≤◌, ◌≢◌, IsTrue, List, codes}
use Rattle.rsct_packet.specs.Fields.{IsNode, IsU16, IsU32, IsRing, IsView, IsProvider, IsProviders, IsProto, AreShort}
use Rattle.rsct_packet.specs.Format.{OptionFits}
use Rattle.rsct_packet.specs.Text.{IsName}
use Rattle.proposal_core.specs.declared.proposal.Proposal.{Proposal}
use Rattle.proposal_core.specs.declared.proposal.Proposal.TheVariants as proposal
use Rattle.proposal_core.specs.declared.entry.Entry.{Entry}
use Rattle.proposal_core.specs.declared.entry.Entry.TheVariants as entry
use Rattle.proposal_core.specs.declared.group_state.GroupState.{GroupState}
use Rattle.proposal_core.specs.declared.group_state.Running.{Running}
use Rattle.proposal_core.specs.EntryCodec.{IsEntry}
use Rattle.client_callbacks.specs.declared.told.Told.{Told}
use Rattle.client_callbacks.specs.declared.told.Told.TheVariants as told
use Rattle.client_callbacks.specs.declared.told.Why.{Why}
use Rattle.client_callbacks.specs.declared.told.Why.TheVariants as why
use Rattle.session_state.specs.declared.fault.GsFault.{GsFault}
use Rattle.session_state.specs.declared.fault.GsFault.TheVariants as fault
use Rattle.word_laws.specs.Ranges.{is_value}
use Rattle.word_laws.specs.Values.{spaced}
use Rattle.record_lines.specs.declared.line.Line.{Line}
use Rattle.record_lines.specs.declared.line.Status.{Status}
use Rattle.record_lines.specs.Fits.{are_members, is_client, fits_status}
use Rattle.record_lines.specs.Writing.{status_words}
use Rattle.node_state.specs.declared.happened.Happened.{Happened}
use Rattle.node_state.specs.declared.happened.Happened.TheVariants as happened
use Rattle.line_laws.specs.Shown.{ShowsWhole}

abbrev pub AreBytes : List ℕ → Type 0
AreBytes bytes = IsTrue (is_value bytes)

abbrev pub IsText : List ℕ → Type 0
IsText bytes = AreShort bytes × AreBytes bytes

-- the bytes that the line of an entry shows are bytes
abbrev pub ProposalBytes : Proposal → Type 0
ProposalBytes (proposal.State p r value) = AreBytes value
ProposalBytes (proposal.Message p r bytes) = AreBytes bytes
ProposalBytes (proposal.Reflect v i value) = AreBytes value
ProposalBytes _ = Unit {0}

abbrev pub EntryBytes : Entry → Type 0
EntryBytes (entry.Once x) = ProposalBytes x
EntryBytes (entry.Begin x) = ProposalBytes x
EntryBytes (entry.Phase c) = OptionFits AreBytes c.value
EntryBytes (entry.Approve c) = OptionFits AreBytes c.value
EntryBytes (entry.Reject c) = Unit {0}
EntryBytes (entry.Late proto phase ps) = Unit {0}

abbrev pub IsOpen : Running → Type 0
IsOpen run = IsProto run.proto × IsU16 run.phase

pub record IsBase (s : GroupState) : Type 0 where
  pub members : IsProviders s.members
  pub value : IsText s.value
  pub failed : IsProviders s.failed
  pub running : OptionFits IsOpen s.running

-- 64 groups are kept
abbrev pub IsRefusal : Why → Type 0
IsRefusal (why.Collide proto) = IsProto proto
IsRefusal why.DuplicateInstance = Unit {0}
IsRefusal (why.NoSource len) = IsU32 len
IsRefusal why.BadAttributes = Unit {0}
IsRefusal why.NotAMember = Unit {0}
IsRefusal (why.ListFull places bytes) = IsU32 places × IsU32 bytes
IsRefusal (why.GroupFull n) = IsU32 n
IsRefusal (why.GroupsFull n) = n ≡ 64
IsRefusal why.Dissolved = Unit {0}

-- 64 sessions are kept, and where memory runs out a daemon ends
abbrev pub IsFault : GsFault → Type 0
IsFault (fault.Collide r) = IsU32 r
IsFault (fault.SessionsFull n) = n ≡ 64
IsFault fault.NoMemory = ⊥
IsFault _ = Unit {0}

-- no group has the name that stands for the hosts
abbrev pub IsNews : Told → Type 0
IsNews (told.Note group members value) = (group ≢ codes "HostMembership") × IsName group × IsProviders members × IsText value
IsNews (told.Hosts view nodes) = IsTrue (are_members nodes)
IsNews (told.Refused p r why) = ⊥

abbrev pub IsNetwork : ℕ → Type 0
IsNetwork n = (1 ≤ n) × (n ≤ 4)

-- what each part of the record has to be
abbrev pub IsRecord : Happened → Type 0
IsRecord (happened.Up n j) = IsNode n × IsU32 j
IsRecord (happened.Down n) = IsNode n
IsRecord (happened.Ring n network ring members m) = IsNode n × IsNetwork network × IsRing ring × IsNode m
IsRecord (happened.In n v ms) = IsNode n × IsView v × IsTrue (are_members ms)
IsRecord (happened.Base n v g old len s) = IsNode n × IsView v × IsName g × IsView old × IsU32 len × IsBase s
IsRecord (happened.Put n v g i e) = IsNode n × IsView v × IsName g × IsU32 i × IsEntry e × EntryBytes e
IsRecord (happened.Heard p v g i e ms value) = IsProvider p × IsView v × IsName g × IsU32 i × IsProviders ms × IsText value
IsRecord (happened.Cast p proto phase v value message) = IsProvider p × IsProto proto × IsU16 phase × OptionFits IsText value
IsRecord (happened.Asked p r g x) = IsProvider p × IsU32 r × IsName g
IsRecord (happened.Told p r y) = IsProvider p × IsU32 r × IsRefusal y
IsRecord (happened.Noted n c v place t) = IsNode n × IsTrue (is_client c) × IsView v × OptionFits IsU32 place × IsNews t
IsRecord (happened.Refused n c f) = IsNode n × IsTrue (is_client c) × IsFault f
IsRecord (happened.Shown n bytes) = IsNode n × (s : Status) × (bytes ≡ spaced (status_words s)) × IsTrue (fits_status s)

-- a record whose parts are these shows something that fits, and so is a line
abbrev pub RecordsAreLines : Type 0
RecordsAreLines = (r : Happened) → IsRecord r → (l : Line) × ShowsWhole r l
