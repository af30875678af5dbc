-- How attributes, proposals, entries and faults are written.
use Rattle.std.specs.Prelude.{ℕ, ◌++◌, List, [], flat_map, Option, Some, None, codes, decimal}
use Rattle.rsct_packet.specs.declared.ids.ProviderId.{ProviderId}
use Rattle.rsct_packet.specs.declared.ids.ProtoId.{ProtoId}
use Rattle.group_attr.specs.declared.attrs.Attrs.{Attrs}
use Rattle.group_attr.specs.declared.attrs.DefaultVote.{DefaultVote}
use Rattle.group_attr.specs.declared.attrs.DefaultVote.TheVariants as default_vote
use Rattle.group_attr.specs.declared.attrs.AttrFault.{AttrFault}
use Rattle.group_attr.specs.declared.attrs.AttrFault.TheVariants as attr_fault
use Rattle.proposal_core.specs.declared.proposal.Cause.{Cause}
use Rattle.proposal_core.specs.declared.proposal.Cause.TheVariants as cause
use Rattle.proposal_core.specs.declared.proposal.Failure.{Failure}
use Rattle.proposal_core.specs.declared.proposal.Proposal.{Proposal}
use Rattle.proposal_core.specs.declared.proposal.Proposal.TheVariants.{Join, Leave, Fail, Expel, State, Message, Attributes, Reflect}
use Rattle.proposal_core.specs.declared.entry.Vote.{Vote}
use Rattle.proposal_core.specs.declared.entry.Vote.TheVariants as vote
use Rattle.proposal_core.specs.declared.entry.RowVote.{RowVote}
use Rattle.proposal_core.specs.declared.entry.RowVote.TheVariants as row_vote
use Rattle.proposal_core.specs.declared.entry.Row.{Row}
use Rattle.proposal_core.specs.declared.entry.Closed.{Closed}
use Rattle.proposal_core.specs.declared.entry.Entry.{Entry}
use Rattle.proposal_core.specs.declared.entry.Entry.TheVariants as entry
use Rattle.proposal_core.specs.declared.group_state.Running.{Running}
use Rattle.session_state.specs.declared.fault.Field.{Field}
use Rattle.session_state.specs.declared.fault.Field.TheVariants as field
use Rattle.session_state.specs.declared.fault.GsFault.{GsFault}
use Rattle.session_state.specs.declared.fault.GsFault.TheVariants as fault
use Rattle.client_callbacks.specs.declared.told.Why.{Why}
use Rattle.client_callbacks.specs.declared.told.Why.TheVariants as why
use Rattle.entry_words.specs.declared.attrs.AttrKey.{AttrKey}
use Rattle.entry_words.specs.Words.{phases_value, batch_value, default_value, limit_value, every_key, attr_row}
use Rattle.value_words.specs.Wording.{word, view_text, provider_text, proto_text, joined, providers_text, value_text}

-- the word of a proposal's kind
unfoldable pub kind_text : Proposal → List ℕ
kind_text (Join ps a n) = codes "join"
kind_text (Leave p r) = codes "leave"
kind_text (Fail out) = codes "fail"
kind_text (Expel p r out) = codes "expel"
kind_text (State p r value) = codes "state"
kind_text (Message p r bytes) = codes "message"
kind_text (Attributes p r a) = codes "attrs"
kind_text (Reflect v i value) = codes "reflect"

unfoldable pub value_option_text : Option (List ℕ) → List ℕ
value_option_text None = codes "-"
value_option_text (Some bytes) = value_text bytes

-- an attribute with this value behind a space; nothing without one
abbrev pub attr_value_text : AttrKey → Option (List ℕ) → List ℕ
attr_value_text k None = []
attr_value_text k (Some v) = codes " " ++ (attr_row k).word ++ codes "=" ++ v

-- an attribute, where it is not that of the empty state
unfoldable pub attr_text : Attrs → AttrKey → List ℕ
attr_text a k = attr_value_text k ((attr_row k).value a)

unfoldable pub attrs_text : Attrs → List ℕ
attrs_text a = flat_map (attr_text a) every_key

unfoldable pub source_len_text : Option ℕ → List ℕ
source_len_text None = []
source_len_text (Some n) = codes " src=" ++ decimal n

unfoldable pub cause_text : Cause → List ℕ
cause_text cause.Died = codes ":died"
cause_text cause.Gone = codes ":gone"
cause_text cause.Cast = codes ":cast"

unfoldable pub failure_text : Failure → List ℕ
failure_text f = provider_text f.provider ++ cause_text f.cause

-- who asks, and with which number
unfoldable pub asker_text : ProviderId → ℕ → List ℕ
asker_text p r = provider_text p ++ codes "/" ++ decimal r

unfoldable pub proposal_text : Proposal → List ℕ
proposal_text (Join ps a n) = codes "join " ++ providers_text ps ++ attrs_text a ++ source_len_text n
proposal_text (Leave p r) = codes "leave " ++ asker_text p r
proposal_text (Fail out) = codes "fail " ++ joined failure_text out
proposal_text (Expel p r out) = codes "expel " ++ asker_text p r ++ codes " " ++ providers_text out
proposal_text (State p r value) = codes "state " ++ asker_text p r ++ codes " " ++ value_text value
proposal_text (Message p r bytes) = codes "message " ++ asker_text p r ++ codes " " ++ value_text bytes
proposal_text (Attributes p r a) = codes "attrs " ++ asker_text p r ++ attrs_text a
proposal_text (Reflect v i value) = codes "reflect " ++ view_text v ++ codes "/" ++ decimal i ++ codes " " ++ value_text value

unfoldable pub vote_text : Vote → List ℕ
vote_text vote.Approve = codes "A"
vote_text vote.Continue = codes "C"
vote_text vote.Reject = codes "R"

unfoldable pub default_letter : DefaultVote → List ℕ
default_letter default_vote.Approve = codes "A"
default_letter default_vote.Reject = codes "R"

unfoldable pub row_vote_text : RowVote → List ℕ
row_vote_text (row_vote.Cast v) = vote_text v
row_vote_text (row_vote.Late d) = codes "L" ++ default_letter d
row_vote_text (row_vote.Failed d) = codes "F" ++ default_letter d

unfoldable pub row_text : Row → List ℕ
row_text r = provider_text r.provider ++ codes "=" ++ row_vote_text r.vote

-- the protocol and the phase, each with the space behind it
unfoldable pub phase_text : ProtoId → ℕ → List ℕ
phase_text proto phase = word (proto_text proto) ++ word (decimal phase)

unfoldable pub closed_text : Closed → List ℕ
closed_text c = phase_text c.proto c.phase ++ joined row_text c.rows

unfoldable pub entry_text : Entry → List ℕ
entry_text (entry.Once x) = codes "once " ++ proposal_text x
entry_text (entry.Begin x) = codes "begin " ++ proposal_text x
entry_text (entry.Phase c) = codes "phase " ++ closed_text c ++ codes " " ++ value_option_text c.value
entry_text (entry.Approve c) = codes "approve " ++ closed_text c ++ codes " " ++ value_option_text c.value
entry_text (entry.Reject c) = codes "reject " ++ closed_text c
entry_text (entry.Late proto phase ps) = codes "late " ++ phase_text proto phase ++ providers_text ps

-- what a provider hears of an entry
unfoldable pub what_text : Entry → List ℕ
what_text (entry.Once x) = codes "once-" ++ kind_text x
what_text (entry.Begin x) = codes "begin-" ++ kind_text x
what_text (entry.Phase c) = codes "phase"
what_text (entry.Approve c) = codes "approve"
what_text (entry.Reject c) = codes "reject"
what_text (entry.Late proto phase ps) = codes "late"

unfoldable pub running_text : Option Running → List ℕ
running_text None = codes "-"
running_text (Some run) = proto_text run.proto ++ codes ":" ++ decimal run.phase

unfoldable pub why_text : Why → List ℕ
why_text (why.Collide proto) = codes "COLLIDE " ++ proto_text proto
why_text why.DuplicateInstance = codes "DUPLICATE_INSTANCE_NUMBER"
why_text (why.NoSource len) = codes "NO_SOURCE_GROUP_PROVIDER " ++ decimal len
why_text why.BadAttributes = codes "BAD_GROUP_ATTRIBUTES"
why_text why.NotAMember = codes "NOT_A_MEMBER"
why_text (why.ListFull places bytes) = codes "LIST_FULL " ++ decimal places ++ codes "/" ++ decimal bytes
why_text (why.GroupFull n) = codes "GROUP_FULL " ++ decimal n
why_text (why.GroupsFull n) = codes "GROUPS_FULL " ++ decimal n
why_text why.Dissolved = codes "DISSOLVED"

unfoldable pub field_text : Field → List ℕ
field_text field.Name = codes "name"
field_text field.Value = codes "value"
field_text field.Message = codes "message"
field_text field.Targets = codes "targets"
field_text field.Subscription = codes "subscription"

unfoldable pub attr_fault_text : AttrFault → List ℕ
attr_fault_text (attr_fault.Limit n) = codes "limit"
attr_fault_text (attr_fault.SourceLimit n) = codes "slimit"
attr_fault_text attr_fault.Source = codes "source"

unfoldable pub fault_text : GsFault → List ℕ
fault_text fault.NoInit = codes "NO_INIT"
fault_text fault.Exists = codes "EXISTS"
fault_text fault.NameTooLong = codes "NAME_TOO_LONG"
fault_text (fault.BadParameter f) = codes "BAD_PARAMETER " ++ field_text f
fault_text fault.BadClientToken = codes "BAD_CLIENT_TOKEN"
fault_text fault.BadMemberToken = codes "BAD_MEMBER_TOKEN"
fault_text fault.UnknownGroup = codes "UNKNOWN_GROUP"
fault_text (fault.BadGroupAttributes f) = codes "BAD_GROUP_ATTRIBUTES " ++ attr_fault_text f
fault_text fault.VoteNotExpected = codes "VOTE_NOT_EXPECTED"
fault_text (fault.Collide r) = codes "COLLIDE " ++ decimal r
fault_text (fault.SessionsFull n) = codes "SESSIONS_FULL " ++ decimal n
fault_text fault.Spent = codes "SPENT"
fault_text fault.NoMemory = codes "NO_MEMORY"

-- opens each word of this file and what those of attributes rest on, for a computation
unfoldable pub entry_wording_opens : Unit {0}
unfolding kind_text value_option_text phases_value batch_value default_value limit_value attr_row attr_text attrs_text source_len_text cause_text failure_text asker_text proposal_text vote_text default_letter row_vote_text row_text phase_text closed_text entry_text what_text running_text why_text field_text attr_fault_text fault_text
entry_wording_opens = tt
