-- What concerns one group: how nodes stand to it, the packets that carry something of it, and the records of it. The
-- packets here carry whole lists, whatever the daemon's own packets leave out of them.
use Rattle.std.specs.Prelude.{ℕ, ◌+◌, List, [], ◌∷◌, map}
use Rattle.rsct_packet.specs.declared.ids.ViewId.{ViewId}
use Rattle.rsct_packet.specs.declared.ids.ProviderId.{ProviderId}
use Rattle.rsct_packet.specs.declared.ids.Member.{Member}
use Rattle.proposal_core.specs.declared.entry.Entry.{Entry}
use Rattle.proposal_core.specs.declared.proposal.Proposal.{Proposal}
use Rattle.proposal_core.specs.declared.group_state.GroupState.{GroupState}

abbrev pub member : ℕ → ℕ → Member
member n j = record { node = n; inc = j }

-- a node as it stands to the group: its incarnation, its view, what it promised, and its list
pub record Standing : Type 0 where
  pub inc : ℕ
  pub view : ViewId
  pub promise : ViewId
  pub list : List Entry

-- an answer: who gives it, from which view, with which list
pub record Reply : Type 0 where
  pub node : ℕ
  pub inc : ℕ
  pub view : ViewId
  pub list : List Entry

abbrev pub members_of : List Reply → List Member
members_of rs = map (λ r. member r.node r.inc) rs

-- what begins in a view: the old view that it comes from, the length of the list there, and the state
pub record Origin : Type 0 where
  pub old : ViewId
  pub len : ℕ
  pub state : GroupState

-- answers, installs with the longest list of each old view, entries at their places; requests of providers and refusals;
-- that a member holds so many entries, and that all members do
pub data Packet : Type 0 where
  Answer : (v : ViewId) (r : Reply) → Packet
  Install : (v : ViewId) (members : List Member) (sources : ViewId → List Entry) → Packet
  Append : (v : ViewId) (i : ℕ) (e : Entry) → Packet
  Request : (v : ViewId) (p : ProviderId) (r : ℕ) (x : Proposal) → Packet
  Refusal : (v : ViewId) (p : ProviderId) (r : ℕ) → Packet
  Ack : (v : ViewId) (n j k : ℕ) → Packet
  Stable : (v : ViewId) (k : ℕ) → Packet

-- a node enters a view in an incarnation, it puts an entry, or an event begins
pub data Record : Type 0 where
  In : (n j : ℕ) (v : ViewId) (members : List Member) → Record
  Put : (n : ℕ) (v : ViewId) (i : ℕ) (e : Entry) → Record
  Begins : Record

-- what changes no list and no view: a node records a base; a provider heard something, or asked for something, or was
-- told a refusal while its node was in v
pub data Note : Type 0 where
  Based : (n : ℕ) (v : ViewId) (o : Origin) → Note
  Heard : (p : ProviderId) (v : ViewId) (i : ℕ) (e : Entry) (members : List ProviderId) (value : List ℕ) → Note
  Asked : (p : ProviderId) (r : ℕ) (x : Proposal) → Note
  Told : (p : ProviderId) (r : ℕ) (v : ViewId) → Note

-- a line of the group's records, the latest first
pub data Line : Type 0 where
  Kept : (r : Record) → Line
  Noted : (x : Note) → Line

-- the records of views and entries
abbrev pub kept : List Line → List Record
kept [] = []
kept (Kept r ∷ all) = r ∷ kept all
kept (Noted x ∷ all) = kept all

-- the records of entries that are put from a place on
abbrev pub puts_from : ℕ → ViewId → ℕ → List Entry → List Record → List Record
puts_from n v i [] tr = tr
puts_from n v i (e ∷ es) tr = puts_from n v (i + 1) es (Put n v i e ∷ tr)

abbrev pub lines_from : ℕ → ViewId → ℕ → List Entry → List Line → List Line
lines_from n v i [] all = all
lines_from n v i (e ∷ es) all = lines_from n v (i + 1) es (Kept (Put n v i e) ∷ all)
