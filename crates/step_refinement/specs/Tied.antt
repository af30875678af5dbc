-- The tie: a node in the middle of a step, and the world around it, stand for the life of a group.
use Rattle.std.specs.Prelude.{ℕ, ◌≤◌, ◌<◌, ◌≡◌, ◌≢◌, ◌⊎◌, Bool, true, false, not, List, [], ◌++◌, length, filter, find, reverse, Option, Some, None, is_some, slice_get}
use Rattle.rsct_packet.specs.declared.ids.ViewId.{ViewId}
use Rattle.rsct_packet.specs.declared.ids.ProviderId.{ProviderId}
use Rattle.rsct_packet.specs.declared.ids.Member.{Member}
use Rattle.rsct_packet.specs.Providers.{among, differ}
use Rattle.std.specs.Str.{bytes_eq}
use Rattle.rsct_packet.specs.Search.{Has}
use Rattle.proposal_core.specs.declared.entry.Entry.{Entry}
use Rattle.proposal_core.specs.declared.proposal.Proposal.{Proposal}
use Rattle.proposal_core.specs.Lists.{list_or_new}
use Rattle.name_server.specs.declared.names.Leader.{Leader}
use Rattle.name_server.specs.Names.{node_of, max_names}
use Rattle.client_callbacks.specs.declared.told.Why.{Why}
use Rattle.session_state.specs.declared.state.Provider.{Provider}
use Rattle.session_state.specs.declared.state.Request.{Request}
use Rattle.session_state.specs.declared.state.SessionState.{SessionState}
use Rattle.session_state.specs.HandOn.{is_join}
use Rattle.view_exchange.specs.Longest.{NamesDiffer}
use Rattle.view_state.specs.declared.packet.ViewPacket.{ViewPacket}
use Rattle.view_state.specs.declared.packet.ViewPacket.TheVariants as view
use Rattle.view_state.specs.declared.views.Views.{Views}
use Rattle.node_state.specs.declared.config.Mode.{Mode}
use Rattle.node_state.specs.declared.config.Config.{Config}
use Rattle.node_state.specs.declared.config.Mode.TheVariants.{Fixed, Asked, Rings}
use Rattle.node_state.specs.declared.group.Decision.{Decision}
use Rattle.node_state.specs.declared.group.GroupRow.{GroupRow}
use Rattle.node_state.specs.declared.group.Led.{Led}
use Rattle.node_state.specs.declared.packet.Body.{Body}
use Rattle.node_state.specs.declared.packet.Body.TheVariants as body
use Rattle.node_state.specs.declared.packet.Packet.{Packet}
use Rattle.node_state.specs.declared.state.Core.{Core}
use Rattle.node_state.specs.Settings.{is_fixed}
use Rattle.node_state.specs.State.{InNameOrder, row_found, row_of, acked_from, decision_of, leads}
use Rattle.node_state.specs.Following.{max_groups}
use Rattle.node_state.specs.Step.{first_view, first_members}
use Rattle.node_state.specs.declared.happened.Happened.{Happened}
use Rattle.node_state.specs.declared.happened.Happened.TheVariants as happened
use Rattle.run_safety.specs.Past.{History, records_of, earlier, view_now}
use Rattle.run_safety.specs.ViewOrder.{Lt, Le}
use Rattle.run_safety.specs.Sight.{lines_with, lines_of}
use Rattle.run_safety.specs.Group.{member, Standing, Line, Noted, Asked, Told, In, Put, kept}
use Rattle.run_safety.specs.Group as group
use Rattle.run_safety.specs.Requests.{requests_of, carried, IsJoin}
use Rattle.run_safety.specs.Moves.{Opening, Alone, Together, Leads}
use Rattle.step_refinement.specs.Ghost.{Asking, asking, Ghost, Lives, Seen, KeepsIf, CarriesIf, part_of, GathersIf, Installs, InstallsIf, IsStable}

-- ---- what a packet shows

abbrev pub ShowsView : Ghost → List ℕ → ℕ → ℕ → ViewPacket → Type 0
ShowsView x g from inc (view.Prepare v mask) = x.asks ≡ true
ShowsView x g from inc (view.Answer v old parts) =
    (full : List Entry) × Has (group.Answer v (record { node = from; inc = inc; view = old; list = full })) x.ps × Seen x old × CarriesIf x old full (part_of g parts) × NamesDiffer parts
ShowsView x g from inc (view.Refuse v n) = Unit {0}
ShowsView x g from inc (view.Install i) = Installs x g i
ShowsView x g from inc (view.Taken v) = Unit {0}

-- an entry is its sender's, who leads
pub record ShowsEntry (x : Ghost) (from inc : ℕ) (v : ViewId) (i k : ℕ) (e : Entry) : Type 0 where
  pub sent : Has (group.Append v i e) x.ps
  pub stable : IsStable x v k
  pub leads : x.leads v ≡ Some (member from inc)

-- who is named leads, as a member of the view; 0 names nobody
pub record ShowsLeader (x : Ghost) (v : ViewId) (n : ℕ) : Type 0 where
  pub inc : ℕ
  pub leads : x.leads v ≡ Some (member n inc)

-- a request goes to the leader of its view
pub record ShowsRequest (x : Ghost) (to : ℕ) (v : ViewId) (p : ProviderId) (r : ℕ) (y : Proposal) : Type 0 where
  pub sent : Has (group.Request v p r y) x.ps
  pub leader : ShowsLeader x v to

-- what a packet of a node in an incarnation, to another, shows of the group
abbrev pub ShowsBody : Ghost → List ℕ → ℕ → ℕ → ℕ → Body → Type 0
ShowsBody x g from inc to (body.View y) = ShowsView x g from inc y
ShowsBody x g from inc to (body.Lookup v h) = x.asks ≡ true
ShowsBody x g from inc to (body.Name v h n) = h ≡ g → (n ≢ 0 → ShowsLeader x v n) × (n ≡ 0 → Has v x.shut)
ShowsBody x g from inc to (body.Request v h p r phases y) = Has (asking p r h) x.asked × Has (p, r) (requests_of y) × (h ≡ g → ShowsRequest x to v p r y)
ShowsBody x g from inc to (body.Tell v h p r why) = Has (asking p r h) x.asked × (h ≡ g → Has (group.Refusal v p r) x.ps)
ShowsBody x g from inc to (body.Entry v h i k e) = h ≡ g → ShowsEntry x from inc v i k e
ShowsBody x g from inc to (body.Ack v h n) = h ≡ g → Has (group.Ack v from inc n) x.ps
ShowsBody x g from inc to _ = Unit {0}

abbrev pub Shows : Ghost → List ℕ → Packet → Type 0
Shows x g p = ShowsBody x g p.from p.inc p.to p.body

-- ---- what a node has

-- the node is where the group has it
pub record Stands (x : Ghost) (n : ℕ) (s : Views) : Type 0 where
  pub me : s.me ≡ n
  pub up : 0 < s.inc
  pub inc : (x.nodes n).inc ≡ s.inc
  pub view : (x.nodes n).view ≡ s.view
  pub promise : (x.nodes n).promise ≡ s.promise
  pub seated : Has (In n s.inc s.view s.members) (kept x.all)

-- a leader that is known leads, as a member
abbrev pub KnowsLeader : Ghost → ViewId → List Member → Option ℕ → Type 0
KnowsLeader x v ms None = Unit {0}
KnowsLeader x v ms (Some n) = (j : ℕ) × Has (member n j) ms × (x.leads v ≡ Some (member n j))

-- a member said that it holds so many entries
abbrev pub IsAcked : Ghost → ViewId → ℕ → ℕ → ℕ → Type 0
IsAcked x v m i k = (k ≡ 0) ⊎ Has (group.Ack v m i k) x.ps

-- its row of the group shows the whole list; what is stable where it leads it knows of each other member
pub record RowIs (x : Ghost) (n : ℕ) (v : ViewId) (ms : List Member) (row : GroupRow) : Type 0 where
  pub list : KeepsIf x v (x.nodes n).list row.list
  pub stable : IsStable x v (list_or_new row.list).start
  pub leader : KnowsLeader x v ms row.leader
  pub acked : (m i : ℕ) → Has (member m i) ms → IsAcked x v m i (acked_from m row.led.acked)
  pub covers : (j k : ℕ) → x.leads v ≡ Some (member n j) → Has (group.Stable v k) x.ps → (m i : ℕ) → Has (member m i) ms → m ≢ n → k ≤ acked_from m row.led.acked

-- a request that is outstanding was asked, and neither put nor refused at its node
pub record Owed (x : Ghost) (n inc : ℕ) (q : Request) : Type 0 where
  pub node : q.provider.node ≡ n
  pub inc_of : q.provider.inc ≡ inc
  pub asked : Has (Noted (Asked q.provider q.request q.proposal)) x.all
  pub unput : (u : ViewId) (k : ℕ) (e : Entry) → Has (Put n u k e) (kept x.all) → Has (q.provider, q.request) (carried e) → ⊥
  pub untold : (u : ViewId) → Has (Noted (Told q.provider q.request u)) x.all → ⊥

-- the providers and what they have outstanding are the node's own, and what is outstanding of the group is owed; numbers
-- that were given are not given again
pub record Owes (x : Ghost) (g : List ℕ) (n inc : ℕ) (s : SessionState) : Type 0 where
  pub me : s.me ≡ n
  pub inc_of : s.inc ≡ inc
  pub providers : (y : Provider) → Has y s.providers → (y.provider.node ≡ n) × (y.provider.inc ≡ inc)
  pub own : (q : Request) → Has q s.requests → (q.provider.node ≡ n) × (q.provider.inc ≡ inc) × Has (asking q.provider q.request q.group) x.asked × Has (q.provider, q.request) (requests_of q.proposal)
  pub requests : (q : Request) → Has q s.requests → q.group ≡ g → Owed x n inc q
  pub attended : (q : Request) → Has q s.requests → (y : Provider) × Has y s.providers × (y.provider ≡ q.provider)
  pub given : (a : Asking) → Has a x.asked → a.provider.node ≡ n → a.provider.inc ≡ inc → a.request ≤ s.last_request

-- what a leader began or refused it keeps a decision of, which is no earlier one
pub record Decided (l : Led) (p : ProviderId) (r : ℕ) : Type 0 where
  pub last : Decision
  pub kept_it : decision_of l p ≡ Some last
  pub later : r ≤ last.request

-- a join that waits was asked for in this view, and neither begun nor refused there
pub record Waits (x : Ghost) (v : ViewId) (list : List Entry) (l : Led) (p : ProviderId) : Type 0 where
  pub proposal : Proposal
  pub sent : Has (group.Request v p p.join proposal) x.ps
  pub joins : IsJoin p proposal
  pub open_still : Has (group.Refusal v p p.join) x.ps → ⊥
  pub unbegun : (i : ℕ) (e : Entry) → slice_get list i ≡ Some e → Has (p, p.join) (carried e) → ⊥
  pub decided : Decided l p p.join

-- what the leader of the group keeps of requests, and why it refused some, where the view is not shut to the group; in a
-- view that it is to lead nothing was refused yet; joins that wait, which differ, wait at the leader alone, and no later
-- request of theirs was decided
pub record LeaderKeeps (x : Ghost) (n inc : ℕ) (v : ViewId) (l : Led) : Type 0 where
  pub refused : (p : ProviderId) (r : ℕ) → x.leads v ≡ Some (member n inc) → (Has v x.shut → ⊥) → Has (group.Refusal v p r) x.ps → Decided l p r
  pub begun : (p : ProviderId) (r i : ℕ) (e : Entry) → x.leads v ≡ Some (member n inc) → slice_get (x.nodes n).list i ≡ Some e → Has (p, r) (carried e) → Decided l p r
  pub waiting : (p : ProviderId) → x.leads v ≡ Some (member n inc) → among l.waiting.joins p ≡ true → Waits x v (x.nodes n).list l p
  pub later : (u : ViewId) → Lt v u → x.leads u ≡ Some (member n inc) → (p : ProviderId) (r : ℕ) → Has (group.Refusal u p r) x.ps → ⊥
  pub again : (p : ProviderId) (d : Decision) (why : Why) → decision_of l p ≡ Some d → d.why ≡ Some why → Has (group.Refusal v p d.request) x.ps
  pub leads_it : (p : ProviderId) → among l.waiting.joins p ≡ true → x.leads v ≡ Some (member n inc)
  pub apart : differ l.waiting.joins ≡ true
  pub lasts : (p : ProviderId) (d : Decision) → among l.waiting.joins p ≡ true → decision_of l p ≡ Some d → d.request ≤ p.join

-- the table of a coordinator says who leads, and of each leader, and it is full where the group has none for good; in mode
-- fixed there is none
pub record Names (x : Ghost) (g : List ℕ) (fixed : Bool) (n inc : ℕ) (v : ViewId) (ms : List Member) (table : List Leader) : Type 0 where
  pub named : (m : ℕ) → v.coord ≡ n → v.inc ≡ inc → fixed ≡ false → node_of g table ≡ Some m → (j : ℕ) × Has (member m j) ms × (x.leads v ≡ Some (member m j))
  pub unnamed : v.coord ≡ n → v.inc ≡ inc → fixed ≡ false → node_of g table ≡ None → x.leads v ≡ None
  pub full : v.coord ≡ n → v.inc ≡ inc → fixed ≡ false → Has v x.shut → (node_of g table ≡ None) × (max_names ≤ length table)

-- the rows with a list
abbrev pub rows_held : List GroupRow → List GroupRow
rows_held rows = filter (λ (row : GroupRow). is_some row.list) rows

-- joins that wait, of any group, were asked there
abbrev pub Waiting : Ghost → List GroupRow → Type 0
Waiting x rows =
    (h : List ℕ) (p : ProviderId) → among (row_found h (find (λ (row : GroupRow). bytes_eq row.name h) rows)).led.waiting.joins p ≡ true → Has (asking p p.join h) x.asked

-- the leader takes no request of the group: it has no list of it, no join waits, and it holds as many lists as a view has
-- at most
pub record Shut (row : GroupRow) (rows : List GroupRow) : Type 0 where
  pub bare : row.list ≡ None
  pub idle : row.led.waiting.joins ≡ []
  pub full : max_groups ≤ length (rows_held rows)

-- in mode fixed at most one join waits where there is no list yet; and the leader of a view that is shut to the group takes
-- no request of it
pub record Idles (x : Ghost) (n inc : ℕ) (v : ViewId) (fixed : Bool) (row : GroupRow) (rows : List GroupRow) : Type 0 where
  pub few : fixed ≡ true → row.list ≡ None → length row.led.waiting.joins ≤ 1
  pub shut : x.leads v ≡ Some (member n inc) → Has v x.shut → Shut row rows

-- a node that is up stands for its part of the life of the group; in mode fixed no node asks for a view, and the
-- coordinator leads
pub record NodeOf (x : Ghost) (g : List ℕ) (n : ℕ) (fixed : Bool) (s : Views) (row : GroupRow) (rows : List GroupRow) (t : SessionState) (table : List Leader) : Type 0 where
  pub stands : Stands x n s
  pub row_is : RowIs x n s.view s.members row
  pub order : InNameOrder rows
  pub gathering : GathersIf x g n s.inc s.view s.promise s.gathering
  pub install : InstallsIf x g s.install
  pub owes : Owes x g n s.inc t
  pub decides : LeaderKeeps x n s.inc s.view row.led
  pub names : Names x g fixed n s.inc s.view s.members table
  pub asks : x.asks ≡ not fixed
  pub led : fixed ≡ true → ShowsLeader x s.view s.view.coord
  pub waits : Waiting x rows
  pub idles : Idles x n s.inc s.view fixed row rows

abbrev pub NodeIs : Ghost → List ℕ → ℕ → Core → Type 0
NodeIs x g n s = NodeOf x g n (is_fixed s.config.mode) s.views (row_of s g) s.groups s.sessions s.names

-- ---- what providers ask for, one thing at a time

-- its node put the join of the provider, in some group, in this view or before it
pub record JoinPut (rs : List Happened) (p : ProviderId) (v : ViewId) : Type 0 where
  pub at_view : ViewId
  pub named : List ℕ
  pub place : ℕ
  pub entry : Entry
  pub put : Has (happened.Put p.node at_view named place entry) rs
  pub joins : Has (p, p.join) (carried entry)
  pub by_then : Le at_view v

-- of each provider one request is outstanding at most, and its join is, or was put
pub record InTurn (v : ViewId) (rs : List Happened) (t : SessionState) : Type 0 where
  pub single : (a b : Request) → Has a t.requests → Has b t.requests → a.provider ≡ b.provider → a ≡ b
  pub joined : (y : Provider) → Has y t.providers → ((q : Request) × Has q t.requests × (q.provider ≡ y.provider) × (q.request ≡ y.provider.join) × (is_join q.proposal ≡ true)) ⊎ JoinPut rs y.provider v
  pub numbered : (y : Provider) → Has y t.providers → y.provider.join ≤ t.last_request
  pub owner : (a b : Provider) → Has a t.providers → Has b t.providers → a.provider ≡ b.provider → a.client ≡ b.client

-- a request that was sent is a join, or its provider's join was put
abbrev pub SentInTurn : List Happened → List group.Packet → Type 0
SentInTurn rs ps =
    (v : ViewId) (p : ProviderId) (r : ℕ) (y : Proposal) → Has (group.Request v p r y) ps → (r ≡ p.join) ⊎ JoinPut rs p v

-- ---- the world

-- each node as it is, if it is up, and the incarnation in which it started last; all packets that were sent; and the
-- events that are over, the latest first
pub record Scene : Type 0 where
  pub config : Config
  pub cores : ℕ → Option Core
  pub incs : ℕ → ℕ
  pub sent : List Packet
  pub before : History

abbrev pub NodeIsIf : Config → Ghost → List ℕ → ℕ → ℕ → Option Core → Type 0
NodeIsIf c x g n inc None = (x.nodes n).inc ≡ inc
NodeIsIf c x g n inc (Some s) = NodeIs x g n s × (s.config ≡ c) × (s.views.inc ≡ inc)

-- a number that is 0, or under which something was asked
abbrev pub Numbered : Ghost → ProviderId → ℕ → Type 0
Numbered x p r = (r ≡ 0) ⊎ ((h : List ℕ) × Has (asking p r h) x.asked)

-- in mode fixed: the leader of the view stands in it, and has no entry of the group
pub record Closed (nodes : ℕ → Standing) (leads : Leads) (asks : Bool) (v : ViewId) : Type 0 where
  pub asks_not : asks ≡ false
  pub node : ℕ
  pub stands : (nodes node).view ≡ v
  pub led : leads v ≡ Some (member node (nodes node).inc)
  pub bare : (nodes node).list ≡ []

-- what was refused was refused in a view that was entered, which has a leader or is shut to the group; a view that is shut
-- to the group was entered, and has no leader for good, or one that takes no request of it; and what was asked was asked
-- in one group, by a node that had started, and before it was told
pub record Sound (g : List ℕ) (x : Ghost) : Type 0 where
  pub refused : (v : ViewId) (p : ProviderId) (r : ℕ) → Has (group.Refusal v p r) x.ps → Seen x v
  pub unled : (v : ViewId) (p : ProviderId) (r : ℕ) → Has (group.Refusal v p r) x.ps → x.leads v ≡ None → Has v x.shut
  pub shut : (v : ViewId) → Has v x.shut → Seen x v × ((x.leads v ≡ None) ⊎ Closed x.nodes x.leads x.asks v)
  pub asked : (p : ProviderId) (r : ℕ) (y : Proposal) → Has (Noted (Asked p r y)) x.all → Has (asking p r g) x.asked
  pub one : (p : ProviderId) (r : ℕ) (h k : List ℕ) → Has (asking p r h) x.asked → Has (asking p r k) x.asked → h ≡ k
  pub started : (a : Asking) → Has a x.asked → a.provider.inc ≤ (x.nodes a.provider.node).inc
  pub told : (p : ProviderId) (r : ℕ) (u : ViewId) → Has (Noted (Told p r u)) x.all → Numbered x p r

-- how nodes start
abbrev pub opening_in : Config → Mode → Opening
opening_in c Fixed = Together (first_view c Fixed 0 1) (first_members c Fixed 0 1)
opening_in c Asked = Alone
opening_in c Rings = Alone

abbrev pub opening_of : Config → Opening
opening_of c = opening_in c c.mode

-- in the middle of a step in which the node has recorded so much
pub record Turns (w : Scene) (n : ℕ) (v : ViewId) (rs : List Happened) (t : SessionState) (ps : List group.Packet) : Type 0 where
  pub own : InTurn v (rs ++ records_of w.before) t
  pub others : (m : ℕ) (c : Core) → m ≢ n → w.cores m ≡ Some c → InTurn c.views.view (records_of w.before) c.sessions
  pub sent : SentInTurn (rs ++ records_of w.before) ps

-- at the end of a step in mode fixed no join of a group that the node leads waits without a list
abbrev pub Begun : List ℕ → Core → Type 0
Begun g s = is_fixed s.config.mode ≡ true → leads s g ≡ true → (row_of s g).list ≡ None → (row_of s g).led.waiting.joins ≡ []

-- between two events; no node is 0
pub record Rests (g : List ℕ) (w : Scene) : Type 0 where
  pub ghost : Ghost
  pub life : Lives (opening_of w.config) ghost
  pub lines : ghost.all ≡ lines_of g w.before
  pub nodes : (m : ℕ) → NodeIsIf w.config ghost g m (w.incs m) (w.cores m)
  pub packets : (p : Packet) → Has p w.sent → Shows ghost g p
  pub sound : Sound g ghost
  pub asks : ghost.asks ≡ not (is_fixed w.config.mode)
  pub placed : (m : ℕ) (c : Core) → w.cores m ≡ Some c → view_now m (records_of w.before) ≡ Some c.views.view
  pub nobody : w.incs 0 ≡ 0
  pub turns : (m : ℕ) (c : Core) → w.cores m ≡ Some c → InTurn c.views.view (records_of w.before) c.sessions
  pub sent : SentInTurn (records_of w.before) ghost.ps
  pub begun : (m : ℕ) (c : Core) → w.cores m ≡ Some c → Begun g c

-- the lines with those of a step that has come so far
abbrev pub lines_now : List ℕ → Scene → Core → List Line
lines_now g w s = lines_with g (reverse s.records) w.before (lines_of g w.before)

-- the records say of each node that is up which view it is in
abbrev pub Placed : Scene → ℕ → Core → Type 0
Placed w n s =
    (view_now n (earlier (reverse s.records) w.before) ≡ Some s.views.view) × ((m : ℕ) (c : Core) → m ≢ n → w.cores m ≡ Some c → view_now m (earlier (reverse s.records) w.before) ≡ Some c.views.view)

-- in the middle of a step of node n, which has come to s; no node is 0
pub record Tied (g : List ℕ) (w : Scene) (n : ℕ) (s : Core) : Type 0 where
  pub ghost : Ghost
  pub life : Lives (opening_of w.config) ghost
  pub lines : ghost.all ≡ lines_now g w s
  pub own : NodeIsIf w.config ghost g n (w.incs n) (Some s)
  pub others : (m : ℕ) → m ≢ n → NodeIsIf w.config ghost g m (w.incs m) (w.cores m)
  pub packets : (p : Packet) → Has p (s.sends ++ w.sent) → Shows ghost g p
  pub sound : Sound g ghost
  pub placed : Placed w n s
  pub nobody : w.incs 0 ≡ 0
  pub turns : Turns w n s.views.view s.records s.sessions ghost.ps
