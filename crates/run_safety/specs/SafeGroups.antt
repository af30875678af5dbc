-- What holds of each group in a safe run of many nodes and views.
use Rattle.std.specs.Prelude.{ℕ, ◌≡◌, ◌⊎◌, List, None}
use Rattle.rsct_packet.specs.declared.ids.ViewId.{ViewId}
use Rattle.rsct_packet.specs.declared.ids.Member.{Member}
use Rattle.proposal_core.specs.declared.entry.Entry.{Entry}
use Rattle.rsct_packet.specs.Search.{Has}
use Rattle.run_safety.specs.Past.{History}
use Rattle.run_safety.specs.SafeLists.{OneEntry}
use Rattle.run_safety.specs.Group.{Standing, Reply, Origin, Packet, Record, In, Line, Noted, Based, kept}
use Rattle.run_safety.specs.GroupLists.{From, OneEntryOf, Rises, InOrder, SameLists, CutHolds, SameMembers}
use Rattle.run_safety.specs.Bases.{Bases, side_state, BaseIs, Wins}
use Rattle.run_safety.specs.Tallies.{Tallied, Fitted}
use Rattle.run_safety.specs.Moves.{Leads, Opening, Life}
use Rattle.run_safety.specs.GroupLaws.{Leading, OneBase, Brought, HeardIsFold, RequestsOnce}
use Rattle.run_safety.specs.Sight.{lines_of}

-- the node came into the view from no other: it started there
abbrev pub ComesFromNowhere : List Record → ℕ → ℕ → ViewId → Type 0
ComesFromNowhere tr n j v = (u : ViewId) → From tr n j v u → ⊥

-- what the members of a view brought settles its base: it is that of the side with the most live providers, cut where the longest
-- list that a member from there held ends; and there is none exactly where no side has members or a running protocol
pub record Settled (tr : List Record) (bases : Bases) (v : ViewId) (ms : List Member) : Type 0 where
  pub replies : List Reply
  pub lists : ViewId → List Entry
  pub brought : Brought tr bases v ms replies lists
  pub base : BaseIs replies lists (λ u. side_state bases lists u) (bases v)

-- so it is in each view that a node enters from another, whose members are those that the node names; a view in which nodes start has
-- no base
abbrev pub BasesSettled : List Line → Bases → Type 0
BasesSettled all bases =
    (n j : ℕ) (v : ViewId) (ms : List Member) → Has (In n j v ms) (kept all) → (ComesFromNowhere (kept all) n j v × (bases v ≡ None)) ⊎ Settled (kept all) bases v ms

-- a base that a node notes is of a view that it entered, and that of the winning side, of what the members of the view brought
abbrev pub BaseWon : List Line → Bases → Type 0
BaseWon all bases =
    (n : ℕ) (v : ViewId) (b : Origin) → Has (Noted (Based n v b)) all → (j : ℕ) × (ms : List Member) × Has (In n j v ms) (kept all) × (rs : List Reply) × (ss : (ViewId → List Entry)) × Brought (kept all) bases v ms rs ss × Wins rs ss (λ u. side_state bases ss u) b

-- Of the lines of one group alone: there are leaders and bases such that all this holds. Fields on records speak of `kept all`, and
-- those on notes, too, of `all`.
pub record SafeLines (o : Opening) (all : List Line) : Type 0 where
  pub leads : Leads
  pub bases : Bases
  -- ---- order
  -- two entries that nodes put at one place of one view's list are the same
  pub one_list : OneEntryOf (kept all)
  -- the places of a node's entries of one view are 0, 1, 2 and on
  pub in_order : InOrder (kept all)
  -- the views that a node enters in one incarnation rise
  pub rising : Rises (kept all)
  -- all nodes that enter a view name the same members, each with its incarnation
  pub members : SameMembers (kept all)
  -- ---- view synchrony
  -- nodes that pass from one view into the same next one leave it with equal lists
  pub together : SameLists (kept all)
  -- such a list is as long as the longest that a member from that view held before
  pub cut : CutHolds (kept all)
  -- ---- fold and bases
  -- the bases that nodes note for a view are one, each node that enters the view notes it, and nobody else does
  pub one_base : OneBase all bases
  -- the base is that of the side with the most live providers, and there is one exactly where a side qualifies
  pub settled : BasesSettled all bases
  -- what is heard at a place carries the members and the value of the fold up to it
  pub heard_fold : HeardIsFold all bases
  -- ---- leaders and requests
  -- the first put of each place is of the view's leader
  pub leading : Leading o (kept all) leads bases
  -- a request begins at most once at its own node, after it was asked there, and not after any refusal of it was told; and whoever
  -- an entry names, at whatever node, asked in this group
  pub requests : RequestsOnce all
  -- ---- tallies
  -- an entry that closes a phase has the tally that its kind says
  pub tallied : Tallied (kept all)
  -- each entry fits the state of the entries before it
  pub fitted : Fitted (kept all) bases

-- what each group of a run sees is safe
abbrev pub SafeGroups : Opening → History → Type 0
SafeGroups o h = (g : List ℕ) → SafeLines o (lines_of g h)

-- in such lines each noted base is that of the winning side of its view
abbrev pub NotedBasesWin : Type 0
NotedBasesWin = (o : Opening) (all : List Line) (safe : SafeLines o all) → BaseWon all safe.bases

-- each group's life gives that
abbrev pub LivesAreSafe : Type 0
LivesAreSafe =
    (o : Opening) (nodes : ℕ → Standing) (ps : List Packet) (all : List Line) (leads : Leads) (bases : Bases) → Life o nodes ps all leads bases → SafeLines o all

-- where each group's lines are safe, the run has one list for each view and group
abbrev pub GroupsGiveOneList : Type 0
GroupsGiveOneList = (o : Opening) (h : History) → SafeGroups o h → OneEntry h
