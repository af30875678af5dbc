-- What stands for one group: how nodes stand to it, its packets, its lines, its leaders and its bases; and what a node
-- keeps or a packet carries of it, which shows the whole lists that stand here; and whether nodes ask for views at all.
use Rattle.std.specs.Prelude.{ℕ, ◌+◌, ◌≤◌, ◌<◌, ◌≡◌, ◌⊎◌, List, [], ◌∷◌, length, drop, find, Option, Some, None, Bool, true, false}
use Rattle.std.specs.Str.{bytes_eq}
use Rattle.rsct_packet.specs.declared.ids.ViewId.{ViewId}
use Rattle.rsct_packet.specs.declared.ids.Member.{Member}
use Rattle.rsct_packet.specs.declared.ids.ProviderId.{ProviderId}
use Rattle.rsct_packet.specs.Mask.{has_node}
use Rattle.rsct_packet.specs.Search.{Has}
use Rattle.proposal_core.specs.declared.entry.Entry.{Entry}
use Rattle.proposal_core.specs.Sizes.{entry_len}
use Rattle.proposal_core.specs.GroupView.{GroupView, new_list}
use Rattle.view_state.specs.declared.answer.Answer.{Answer}
use Rattle.view_state.specs.declared.exchange.Exchange.{Exchange}
use Rattle.view_state.specs.declared.install.Part.{Part}
use Rattle.view_state.specs.declared.install.Source.{Source}
use Rattle.view_state.specs.declared.install.Install.{Install}
use Rattle.view_state.specs.declared.install.Base.{Base}
use Rattle.view_state.specs.Answers.{opened}
use Rattle.view_state.specs.Cut.{all_fit}
use Rattle.view_exchange.specs.Longest.{all_counted, NamesDiffer}
use Rattle.view_state.specs.Bases.{source_at, bases_of, base_named}
use Rattle.run_safety.specs.ViewOrder.{Lt}
use Rattle.run_safety.specs.Group.{member, members_of, Standing, Reply, Origin, Packet, Line, In, kept}
use Rattle.run_safety.specs.Group as group
use Rattle.run_safety.specs.Bases.{Bases, base_state, state_of_list}
use Rattle.run_safety.specs.Moves.{Leads, Opening, Life}

-- a request: of which provider, under which number, in which group
pub record Asking : Type 0 where
  pub provider : ProviderId
  pub request : ℕ
  pub group : List ℕ

abbrev pub asking : ProviderId → ℕ → List ℕ → Asking
asking p r g = record { provider = p; request = r; group = g }

pub record Ghost : Type 0 where
  pub nodes : ℕ → Standing
  pub ps : List Packet
  pub all : List Line
  pub leads : Leads
  pub bases : Bases
  -- in mode fixed none does
  pub asks : Bool
  -- views that are shut to the group: they have no leader of it for good, or one that takes no request of it
  pub shut : List ViewId
  -- what was asked, in any group
  pub asked : List Asking

-- moves make it
abbrev pub Lives : Opening → Ghost → Type 0
Lives o x = Life o x.nodes x.ps x.all x.leads x.bases

-- some node entered the view
abbrev pub Seen : Ghost → ViewId → Type 0
Seen x v = (n : ℕ) × (j : ℕ) × (ms : List Member) × Has (In n j v ms) (kept x.all)

-- what was said stays said, who leads goes on leading, and the base of a view that was entered is settled
pub record Goes (x y : Ghost) : Type 0 where
  pub packets : (p : Packet) → Has p x.ps → Has p y.ps
  pub records : (r : group.Record) → Has r (kept x.all) → Has r (kept y.all)
  pub lines : (l : Line) → Has l x.all → Has l y.all
  pub leads : (v : ViewId) (l : Member) → x.leads v ≡ Some l → y.leads v ≡ Some l
  pub bases : (v : ViewId) → Seen x v → y.bases v ≡ x.bases v
  pub asks : y.asks ≡ x.asks
  pub shut : (v : ViewId) → Has v x.shut → Has v y.shut
  pub asked : (a : Asking) → Has a x.asked → Has a y.asked

-- all members of the view hold so many entries
abbrev pub IsStable : Ghost → ViewId → ℕ → Type 0
IsStable x v k = (k ≡ 0) ⊎ Has (group.Stable v k) x.ps

-- the bytes of entries
abbrev pub bytes_of : List Entry → ℕ
bytes_of [] = 0
bytes_of (e ∷ es) = entry_len e + bytes_of es

-- the entries fit one after another, from the view's base on
abbrev pub FitIn : Ghost → ViewId → List Entry → Type 0
FitIn x v full = all_fit v (new_list (base_state (x.bases v))) full ≡ true

-- ---- lists without their front

-- a node's list of a view shows the whole one, which fits: from its start on, with the state and the bytes at its end
pub record Keeps (x : Ghost) (v : ViewId) (full : List Entry) (l : GroupView) : Type 0 where
  pub starts : l.start ≤ length full
  pub len : l.len ≡ length full
  pub entries : l.entries ≡ drop l.start full
  pub state : l.state ≡ state_of_list x.bases v full
  pub bytes : l.bytes ≡ bytes_of full
  pub fits : FitIn x v full

-- a node without a list has no entries, and the view has no base
abbrev pub KeepsIf : Ghost → ViewId → List Entry → Option GroupView → Type 0
KeepsIf x v full None = (full ≡ []) × (x.bases v ≡ None)
KeepsIf x v full (Some l) = Keeps x v full l

-- a part of an answer or an install shows the whole list, which fits, and what is left out of it all members hold
pub record Carries (x : Ghost) (v : ViewId) (full : List Entry) (p : Part) : Type 0 where
  pub starts : p.start ≤ length full
  pub entries : p.entries ≡ drop p.start full
  pub state : p.state ≡ state_of_list x.bases v full
  pub fits : FitIn x v full
  pub stable : IsStable x v p.start

abbrev pub CarriesIf : Ghost → ViewId → List Entry → Option Part → Type 0
CarriesIf x v full None = (full ≡ []) × (x.bases v ≡ None)
CarriesIf x v full (Some p) = Carries x v full p

abbrev pub part_of : List ℕ → List Part → Option Part
part_of g parts = find (λ p. bytes_eq p.name g) parts

-- ---- answers and installs

-- an answer that a coordinator keeps shows one that was sent
pub record ReplyIs (x : Ghost) (g : List ℕ) (v : ViewId) (a : Answer) (r : Reply) : Type 0 where
  pub node : r.node ≡ a.node
  pub inc : r.inc ≡ a.inc
  pub view : r.view ≡ a.view
  pub sent : Has (group.Answer v r) x.ps
  pub seen : Seen x a.view
  pub part : CarriesIf x a.view r.list (part_of g a.parts)
  pub names : NamesDiffer a.parts

-- what a node gathers for the view that it promised: the answers that counted, in the order in which they came, and the
-- replies that they show, in the order of the members
pub record Gathers (x : Ghost) (g : List ℕ) (n inc : ℕ) (v promise : ViewId) (e : Exchange) : Type 0 where
  pub view : e.view ≡ promise
  pub coord : promise.coord ≡ n
  pub inc_of : promise.inc ≡ inc
  pub later : 1 < promise.number
  pub lt : Lt v promise
  pub answers : List Answer
  pub made : e ≡ record (all_counted (opened promise e.asked) answers) { age = e.age }
  pub replies : List Reply
  pub members : e.members ≡ members_of replies
  pub shown : (a : Answer) → Has a answers → (r : Reply) × Has r replies × ReplyIs x g promise a r
  pub came : (r : Reply) → Has r replies → (a : Answer) × Has a answers × ReplyIs x g promise a r
  pub own : (a : Answer) × Has a answers × (a.node ≡ n) × (a.inc ≡ inc)
  pub single : (a b : Answer) → Has a answers → Has b answers → a.node ≡ b.node → a ≡ b
  pub asked : (a : Answer) → Has a answers → has_node e.asked a.node ≡ true
  pub asks : x.asks ≡ true

-- a node that gathers nothing in mode fixed has promised no other view
abbrev pub GathersIf : Ghost → List ℕ → ℕ → ℕ → ViewId → ViewId → Option Exchange → Type 0
GathersIf x g n inc v promise None = x.asks ≡ false → promise ≡ v
GathersIf x g n inc v promise (Some e) = Gathers x g n inc v promise e

abbrev pub origin_of : Base → Origin
origin_of b = record { old = b.from; len = b.len; state = b.state }

-- the base that an install gives the group, and its leader
abbrev pub BaseIsOf : Ghost → ViewId → List Member → Option Base → Type 0
BaseIsOf x v ms None = x.bases v ≡ None
BaseIsOf x v ms (Some b) = (x.bases v ≡ Some (origin_of b)) × ((j : ℕ) × Has (member b.leader j) ms × (x.leads v ≡ Some (member b.leader j)))

-- an install shows one that was sent
pub record Installs (x : Ghost) (g : List ℕ) (i : Install) : Type 0 where
  pub whole : ViewId → List Entry
  pub sent : Has (group.Install i.view i.members whole) x.ps
  pub entered : Seen x i.view
  pub seen : (s : Source) → Has s i.sources → Seen x s.view
  pub parts : (s : Source) → Has s i.sources → CarriesIf x s.view (whole s.view) (part_of g s.parts)
  pub names : (s : Source) → Has s i.sources → NamesDiffer s.parts
  pub rest : (v : ViewId) → source_at i.sources v ≡ None → whole v ≡ []
  pub base : BaseIsOf x i.view i.members (base_named (bases_of i) g)
  pub asks : x.asks ≡ true

abbrev pub InstallsIf : Ghost → List ℕ → Option Install → Type 0
InstallsIf x g None = Unit {0}
InstallsIf x g (Some i) = Installs x g i
