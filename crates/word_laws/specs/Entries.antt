-- How proposals, votes, entries and refusals are read off a line: the readers of the words that entry_words writes.
use Rattle.std.specs.Prelude.{ℕ, Bool, true, false, not, ◌∷◌, List, [], filter, Option, Some, None, codes}
use Rattle.std.specs.Str.{bytes_eq}
use Rattle.rsct_packet.specs.declared.ids.ProtoId.{ProtoId}
use Rattle.rsct_packet.specs.declared.ids.ProviderId.{ProviderId}
use Rattle.group_attr.specs.declared.attrs.AttrFault.{AttrFault}
use Rattle.group_attr.specs.declared.attrs.AttrFault.TheVariants as attr_fault
use Rattle.group_attr.specs.declared.attrs.DefaultVote.TheVariants as default_vote
use Rattle.proposal_core.specs.declared.proposal.Cause.{Cause}
use Rattle.proposal_core.specs.declared.proposal.Cause.TheVariants as cause
use Rattle.proposal_core.specs.declared.proposal.Failure.{Failure}
use Rattle.proposal_core.specs.declared.proposal.Proposal.{Proposal}
use Rattle.proposal_core.specs.declared.proposal.Proposal.TheVariants as proposal
use Rattle.proposal_core.specs.declared.entry.Vote.{Vote}
use Rattle.proposal_core.specs.declared.entry.Vote.TheVariants as vote
use Rattle.proposal_core.specs.declared.entry.RowVote.{RowVote}
use Rattle.proposal_core.specs.declared.entry.RowVote.TheVariants as row_vote
use Rattle.proposal_core.specs.declared.entry.Row.{Row}
use Rattle.proposal_core.specs.declared.entry.Closed.{Closed}
use Rattle.proposal_core.specs.declared.entry.Entry.{Entry}
use Rattle.proposal_core.specs.declared.entry.Entry.TheVariants as entry
use Rattle.client_callbacks.specs.declared.told.Why.{Why}
use Rattle.client_callbacks.specs.declared.told.Why.TheVariants as why
use Rattle.session_state.specs.declared.fault.Field.{Field}
use Rattle.session_state.specs.declared.fault.Field.TheVariants as field
use Rattle.session_state.specs.declared.fault.GsFault.{GsFault}
use Rattle.session_state.specs.declared.fault.GsFault.TheVariants as fault
use Rattle.value_words.specs.Words.{◌>>=◌, split_on, provider_word, chosen}
use Rattle.entry_words.specs.Words.{before_equals, after_equals, attr_words}
use Rattle.word_laws.specs.declared.kind.Kind.{Kind}
use Rattle.word_laws.specs.declared.kind.Kind.TheVariants as kind
use Rattle.word_laws.specs.Values.{u32_word, u16_word, two_word, proto_word, list_word, value_word, value_or_none}

-- what a proposal is, by the word of its kind
unfoldable pub kind_read : List ℕ → Option Kind
kind_read w =
    chosen
    (record { word = codes "join"; means = kind.Join }
    ∷ record { word = codes "leave"; means = kind.Leave }
    ∷ record { word = codes "fail"; means = kind.Fail }
    ∷ record { word = codes "expel"; means = kind.Expel }
    ∷ record { word = codes "state"; means = kind.State }
    ∷ record { word = codes "message"; means = kind.Message }
    ∷ record { word = codes "attrs"; means = kind.Attributes }
    ∷ record { word = codes "reflect"; means = kind.Reflect }
    ∷ [])
    w

unfoldable pub kind_of : Proposal → Kind
kind_of (proposal.Join ps a n) = kind.Join
kind_of (proposal.Leave p r) = kind.Leave
kind_of (proposal.Fail out) = kind.Fail
kind_of (proposal.Expel p r out) = kind.Expel
kind_of (proposal.State p r value) = kind.State
kind_of (proposal.Message p r bytes) = kind.Message
kind_of (proposal.Attributes p r a) = kind.Attributes
kind_of (proposal.Reflect v i value) = kind.Reflect

-- ---- proposals

unfoldable pub cause_word : List ℕ → Option Cause
cause_word w =
    chosen (record { word = codes "died"; means = cause.Died } ∷ record { word = codes "gone"; means = cause.Gone } ∷ record { word = codes "cast"; means = cause.Cast } ∷ []) w

unfoldable pub failure_word : List ℕ → Option Failure
failure_word w = do
  x ← two_word 58 provider_word cause_word w
  Some (record { provider = x.0; cause = x.1 })

-- a provider and the number of its request
unfoldable pub asker_word : List ℕ → Option (ProviderId × ℕ)
asker_word w = two_word 47 provider_word u32_word w

unfoldable pub is_source_len : List ℕ → Bool
is_source_len w = bytes_eq (before_equals w) (codes "src")

-- the first of these, where there is one
unfoldable pub source_len_of : List (List ℕ) → Option (Option ℕ)
source_len_of [] = Some None
source_len_of (w ∷ ws) = do
  v ← after_equals w
  n ← u32_word v
  Some (Some n)

unfoldable pub valued_words : (ProviderId → ℕ → List ℕ → Proposal) → List ℕ → List ℕ → Option Proposal
valued_words make w t = do
  x ← asker_word w
  value ← value_word t
  Some (make x.0 x.1 value)

-- the words behind the word of the kind
unfoldable pub proposed_words : Kind → List (List ℕ) → Option Proposal
proposed_words kind.Join (w ∷ ws) = do
  ps ← list_word provider_word w
  a ← attr_words (filter (λ w. not (is_source_len w)) ws)
  n ← source_len_of (filter is_source_len ws)
  Some (proposal.Join ps a n)
proposed_words kind.Leave (w ∷ []) = do
  x ← asker_word w
  Some (proposal.Leave x.0 x.1)
proposed_words kind.Fail (w ∷ []) = do
  out ← list_word failure_word w
  Some (proposal.Fail out)
proposed_words kind.Expel (w ∷ t ∷ []) = do
  x ← asker_word w
  out ← list_word provider_word t
  Some (proposal.Expel x.0 x.1 out)
proposed_words kind.State (w ∷ t ∷ []) = valued_words proposal.State w t
proposed_words kind.Message (w ∷ t ∷ []) = valued_words proposal.Message w t
proposed_words kind.Attributes (w ∷ ws) = do
  x ← asker_word w
  a ← attr_words ws
  Some (proposal.Attributes x.0 x.1 a)
proposed_words kind.Reflect (w ∷ t ∷ []) = do
  x ← proto_word w
  value ← value_word t
  Some (proposal.Reflect x.view x.place value)
proposed_words _ _ = None

unfoldable pub proposal_read : List (List ℕ) → Option Proposal
proposal_read [] = None
proposal_read (k ∷ ws) = do
  x ← kind_read k
  proposed_words x ws

-- ---- votes

unfoldable pub vote_letter : List ℕ → Option Vote
vote_letter w =
    chosen (record { word = codes "A"; means = vote.Approve } ∷ record { word = codes "C"; means = vote.Continue } ∷ record { word = codes "R"; means = vote.Reject } ∷ []) w

-- a vote, with its value where one stands behind it
unfoldable pub ballot_read : List ℕ → Option (Vote × Option (List ℕ))
ballot_read [] = None
ballot_read (b ∷ []) = do
  v ← vote_letter (b ∷ [])
  Some (v, None)
ballot_read (b ∷ c ∷ bs) = do
  v ← vote_letter (b ∷ [])
  x ← value_word (c ∷ bs)
  Some (v, Some x)

-- what runs: a protocol and its phase, `-` for none
unfoldable pub some_running : Option (ProtoId × ℕ) → Option (Option (ProtoId × ℕ))
some_running None = None
some_running (Some x) = Some (Some x)

unfoldable pub running_read : List ℕ → Option (Option (ProtoId × ℕ))
running_read w = elim (bytes_eq w (codes "-")) [ true ↦ Some None | false ↦ some_running (two_word 58 proto_word u16_word w) ]

-- ---- entries

unfoldable pub row_vote_word : List ℕ → Option RowVote
row_vote_word w =
    chosen
    (record { word = codes "A"; means = row_vote.Cast vote.Approve }
    ∷ record { word = codes "C"; means = row_vote.Cast vote.Continue }
    ∷ record { word = codes "R"; means = row_vote.Cast vote.Reject }
    ∷ record { word = codes "LA"; means = row_vote.Late default_vote.Approve }
    ∷ record { word = codes "LR"; means = row_vote.Late default_vote.Reject }
    ∷ record { word = codes "FA"; means = row_vote.Failed default_vote.Approve }
    ∷ record { word = codes "FR"; means = row_vote.Failed default_vote.Reject }
    ∷ [])
    w

unfoldable pub row_word : List ℕ → Option Row
row_word w = do
  x ← two_word 61 provider_word row_vote_word w
  Some (record { provider = x.0; vote = x.1 })

unfoldable pub closed_words : List ℕ → List ℕ → List ℕ → Option (List ℕ) → Option Closed
closed_words a b c value = do
  proto ← proto_word a
  phase ← u16_word b
  rows ← list_word row_word c
  Some (record { proto = proto; phase = phase; rows = rows; value = value; message = None })

pub data EntryHead : Type 0 where
  HOnce : EntryHead
  HBegin : EntryHead
  HPhase : EntryHead
  HApprove : EntryHead
  HReject : EntryHead
  HLate : EntryHead

unfoldable pub entry_head : List ℕ → Option EntryHead
entry_head w =
    chosen
    (record { word = codes "once"; means = HOnce }
    ∷ record { word = codes "begin"; means = HBegin }
    ∷ record { word = codes "phase"; means = HPhase }
    ∷ record { word = codes "approve"; means = HApprove }
    ∷ record { word = codes "reject"; means = HReject }
    ∷ record { word = codes "late"; means = HLate }
    ∷ [])
    w

unfoldable pub valued_closed : (Closed → Entry) → List ℕ → List ℕ → List ℕ → List ℕ → Option Entry
valued_closed make a b c d = do
  value ← value_or_none d
  x ← closed_words a b c value
  Some (make x)

-- the words behind the entry's first
unfoldable pub said_entry : EntryHead → List (List ℕ) → Option Entry
said_entry HOnce ws = do
  x ← proposal_read ws
  Some (entry.Once x)
said_entry HBegin ws = do
  x ← proposal_read ws
  Some (entry.Begin x)
said_entry HPhase (a ∷ b ∷ c ∷ d ∷ []) = valued_closed entry.Phase a b c d
said_entry HApprove (a ∷ b ∷ c ∷ d ∷ []) = valued_closed entry.Approve a b c d
said_entry HReject (a ∷ b ∷ c ∷ []) = do
  x ← closed_words a b c None
  Some (entry.Reject x)
said_entry HLate (a ∷ b ∷ c ∷ []) = do
  proto ← proto_word a
  phase ← u16_word b
  ps ← list_word provider_word c
  Some (entry.Late proto phase ps)
said_entry _ _ = None

unfoldable pub entry_read : List (List ℕ) → Option Entry
entry_read [] = None
entry_read (k ∷ ws) = do
  x ← entry_head k
  said_entry x ws

-- ---- refusals of requests

unfoldable pub plain_why : List ℕ → Option Why
plain_why w =
    chosen
    (record { word = codes "DUPLICATE_INSTANCE_NUMBER"; means = why.DuplicateInstance }
    ∷ record { word = codes "BAD_GROUP_ATTRIBUTES"; means = why.BadAttributes }
    ∷ record { word = codes "NOT_A_MEMBER"; means = why.NotAMember }
    ∷ record { word = codes "DISSOLVED"; means = why.Dissolved }
    ∷ [])
    w

-- those that say more behind their word
pub data WhyHead : Type 0 where
  HCollide : WhyHead
  HNoSource : WhyHead
  HListFull : WhyHead
  HGroupFull : WhyHead
  HGroupsFull : WhyHead

unfoldable pub why_head : List ℕ → Option WhyHead
why_head w =
    chosen
    (record { word = codes "COLLIDE"; means = HCollide }
    ∷ record { word = codes "NO_SOURCE_GROUP_PROVIDER"; means = HNoSource }
    ∷ record { word = codes "LIST_FULL"; means = HListFull }
    ∷ record { word = codes "GROUP_FULL"; means = HGroupFull }
    ∷ record { word = codes "GROUPS_FULL"; means = HGroupsFull }
    ∷ [])
    w

unfoldable pub said_why : WhyHead → List ℕ → Option Why
said_why HCollide w = do
  proto ← proto_word w
  Some (why.Collide proto)
said_why HNoSource w = do
  len ← u32_word w
  Some (why.NoSource len)
said_why HListFull w = do
  x ← two_word 47 u32_word u32_word w
  Some (why.ListFull x.0 x.1)
said_why HGroupFull w = do
  n ← u32_word w
  Some (why.GroupFull n)
said_why HGroupsFull w = do
  n ← u32_word w
  Some (why.GroupsFull n)

unfoldable pub why_read : List (List ℕ) → Option Why
why_read (w ∷ []) = plain_why w
why_read (w ∷ v ∷ []) = do
  h ← why_head w
  said_why h v
why_read _ = None

-- ---- refusals of calls

unfoldable pub plain_fault : List ℕ → Option GsFault
plain_fault w =
    chosen
    (record { word = codes "NO_INIT"; means = fault.NoInit }
    ∷ record { word = codes "EXISTS"; means = fault.Exists }
    ∷ record { word = codes "NAME_TOO_LONG"; means = fault.NameTooLong }
    ∷ record { word = codes "BAD_CLIENT_TOKEN"; means = fault.BadClientToken }
    ∷ record { word = codes "BAD_MEMBER_TOKEN"; means = fault.BadMemberToken }
    ∷ record { word = codes "UNKNOWN_GROUP"; means = fault.UnknownGroup }
    ∷ record { word = codes "VOTE_NOT_EXPECTED"; means = fault.VoteNotExpected }
    ∷ record { word = codes "SPENT"; means = fault.Spent }
    ∷ record { word = codes "NO_MEMORY"; means = fault.NoMemory }
    ∷ [])
    w

unfoldable pub field_word : List ℕ → Option Field
field_word w =
    chosen
    (record { word = codes "name"; means = field.Name }
    ∷ record { word = codes "value"; means = field.Value }
    ∷ record { word = codes "message"; means = field.Message }
    ∷ record { word = codes "targets"; means = field.Targets }
    ∷ record { word = codes "subscription"; means = field.Subscription }
    ∷ [])
    w

-- which attribute is bad; a line does not say the limit
unfoldable pub attr_fault_word : List ℕ → Option AttrFault
attr_fault_word w =
    chosen
    (record { word = codes "limit"; means = attr_fault.Limit 0 }
    ∷ record { word = codes "slimit"; means = attr_fault.SourceLimit 0 }
    ∷ record { word = codes "source"; means = attr_fault.Source }
    ∷ [])
    w

pub data FaultHead : Type 0 where
  HParameter : FaultHead
  HAttributes : FaultHead
  HPending : FaultHead
  HSessions : FaultHead

unfoldable pub fault_head : List ℕ → Option FaultHead
fault_head w =
    chosen
    (record { word = codes "BAD_PARAMETER"; means = HParameter }
    ∷ record { word = codes "BAD_GROUP_ATTRIBUTES"; means = HAttributes }
    ∷ record { word = codes "COLLIDE"; means = HPending }
    ∷ record { word = codes "SESSIONS_FULL"; means = HSessions }
    ∷ [])
    w

unfoldable pub said_fault : FaultHead → List ℕ → Option GsFault
said_fault HParameter w = do
  f ← field_word w
  Some (fault.BadParameter f)
said_fault HAttributes w = do
  f ← attr_fault_word w
  Some (fault.BadGroupAttributes f)
said_fault HPending w = do
  r ← u32_word w
  Some (fault.Collide r)
said_fault HSessions w = do
  n ← u32_word w
  Some (fault.SessionsFull n)

unfoldable pub fault_read : List (List ℕ) → Option GsFault
fault_read (w ∷ []) = plain_fault w
fault_read (w ∷ v ∷ []) = do
  h ← fault_head w
  said_fault h v
fault_read _ = None

-- opens each word of this file, for a computation
unfoldable pub entries_read_open : Unit {0}
unfolding kind_read kind_of cause_word failure_word asker_word is_source_len source_len_of valued_words proposed_words proposal_read vote_letter ballot_read some_running running_read row_vote_word row_word closed_words entry_head valued_closed said_entry entry_read plain_why why_head said_why why_read plain_fault field_word attr_fault_word fault_head said_fault fault_read
entries_read_open = tt
