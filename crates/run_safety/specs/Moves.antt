-- The moves: all that can happen to one group. The step of a daemon is, for each group, a list of these.
use Rattle.std.specs.Prelude.{true, false, ℕ, ◌+◌, ◌≤◌, ◌<◌, ◌≡◌, ◌≢◌, ◌⊎◌, List, [], ◌∷◌, ◌++◌, length, take, drop, Option, Some, None, slice_get}
use Rattle.rsct_packet.specs.declared.ids.ViewId.{ViewId}
use Rattle.rsct_packet.specs.declared.ids.ProviderId.{ProviderId}
use Rattle.rsct_packet.specs.declared.ids.Member.{Member}
use Rattle.proposal_core.specs.declared.entry.Entry.{Entry}
use Rattle.proposal_core.specs.declared.proposal.Proposal.{Proposal}
use Rattle.proposal_core.specs.declared.group_state.GroupState.{GroupState}
use Rattle.proposal_core.specs.Fold.{fits}
use Rattle.rsct_packet.specs.Search.{Has}
use Rattle.run_safety.specs.ViewOrder.{Lt, Le}
use Rattle.run_safety.specs.Group.{member, Standing, Reply, members_of, Origin, Packet, Answer, Install, Append, Request, Refusal, Ack, Stable, Record, In, Put, Begins, Note, Based, Heard, Asked, Told, Line, Kept, Noted, kept, lines_from}
use Rattle.run_safety.specs.GroupLists.{held_by, WasIn, puts_of}
use Rattle.run_safety.specs.Bases.{Bases, side_state, BaseIs, leader_of, state_of_list}
use Rattle.run_safety.specs.Requests.{carried, Meets}
use Rattle.run_safety.specs.Tallies.{IsTallied}

-- who leads the group in a view, once that is settled, with the incarnation
abbrev pub Leads : Type 0
Leads = ViewId → Option Member

-- one node changed, and the others did not
pub record Changes (nodes now : ℕ → Standing) (n : ℕ) (x : Standing) : Type 0 where
  pub here : now n ≡ x
  pub there : (m : ℕ) → m ≢ n → now m ≡ nodes m

-- the view with which an incarnation starts alone
abbrev pub first : ℕ → ℕ → ViewId
first n j = record { number = 1; coord = n; inc = j }

-- how nodes start: each alone, or, in mode fixed, all in one view
pub data Opening : Type 0 where
  Alone : Opening
  Together : (v : ViewId) (members : List Member) → Opening

abbrev pub Born : Opening → ℕ → ℕ → ViewId → List Member → Type 0
Born Alone n j v ms = (v ≡ first n j) × (ms ≡ member n j ∷ [])
Born (Together w all) n j v ms = (v ≡ w) × (ms ≡ all) × (j ≡ 1) × (w.number ≡ 1) × Has (member n 1) all

-- no node put anything in this event so far
pub record Quiet (trace : List Record) : Type 0 where
  pub at : (m : ℕ) (u : ViewId) → held_by m u true trace ≡ held_by m u false trace

-- what is carried for each view is the longest of the answers from it
pub record Longest (rs : List Reply) (ss : ViewId → List Entry) : Type 0 where
  pub over : (r : Reply) → Has r rs → length r.list ≤ length (ss r.view)
  pub one : (u : ViewId) → (ss u ≡ []) ⊎ ((r : Reply) × Has r rs × (r.view ≡ u) × (r.list ≡ ss u))

-- what a coordinator has collected for the view that it promised
pub record Collected (packets : List Packet) (n : ℕ) (x : Standing) (rs : List Reply) (ss : ViewId → List Entry) : Type 0 where
  pub sent : (r : Reply) → Has r rs → Has (Answer x.promise r) packets
  pub lt : Lt x.view x.promise
  pub up : 0 < x.inc
  pub coord : x.promise.coord ≡ n
  pub inc : x.promise.inc ≡ x.inc
  pub later : 1 < x.promise.number
  pub own : (r : Reply) × Has r rs × (r.node ≡ n)
  pub only : (r : Reply) → Has r rs → r.node ≡ n → r.inc ≡ x.inc
  pub longest : Longest rs ss
  pub single : (r q : Reply) → Has r rs → Has q rs → r.node ≡ q.node → r.inc ≡ q.inc

-- one value of a function is set, and the others stay
pub record SetAt {A : Type 0} (old now : ViewId → A) (v : ViewId) (y : A) : Type 0 where
  pub here : now v ≡ y
  pub there : (u : ViewId) → (u ≡ v → ⊥) → now u ≡ old u

-- a leader was in the view when it was named, or is a member by the install
abbrev pub Led : List Packet → List Record → ViewId → ℕ → ℕ → Type 0
Led packets trace v n j =
    WasIn trace n j v ⊎ ((ms : List Member) × (ss : ViewId → List Entry) × Has (Install v ms ss) packets × Has (member n j) ms)

-- who may be named: in mode fixed the coordinator alone
abbrev pub MayLead : Opening → ViewId → ℕ → Type 0
MayLead Alone v n = Unit {0}
MayLead (Together w all) v n = n ≡ v.coord

-- a node that enters a view notes its base, where there is one
abbrev pub based : ℕ → ViewId → Option Origin → List Line → List Line
based n v None all = all
based n v (Some b) all = Noted (Based n v b) ∷ all

-- the lines of a node that enters v: what its list of the old view lacks is put, then it is in
abbrev pub entered : ℕ → Standing → ViewId → List Member → (ViewId → List Entry) → Option Origin → List Line → List Line
entered n x v ms ss b all =
    based n v b (Kept (In n x.inc v ms) ∷ lines_from n x.view (length x.list) (drop (length x.list) (ss x.view)) all)

abbrev pub grown : Standing → Entry → Standing
grown x e = record x { list = x.list ++ e ∷ [] }

-- a request that an entry begins: it was sent in this view, and neither begun nor refused there
pub record Due (packets : List Packet) (v : ViewId) (list : List Entry) (e : Entry) (p : ProviderId) (r : ℕ) : Type 0 where
  pub sent : (x : Proposal) × Has (Request v p r x) packets × Meets p x e
  pub open_still : Has (Refusal v p r) packets → ⊥
  pub unbegun : (i : ℕ) (f : Entry) → slice_get list i ≡ Some f → Has (p, r) (carried f) → ⊥

-- a note stands at a place of the lines
pub record Inserted (x : Note) (all more : List Line) : Type 0 where
  pub newer : List Line
  pub older : List Line
  pub was : all ≡ newer ++ older
  pub is : more ≡ newer ++ Noted x ∷ older

-- all that can become of a group: how nodes stand to it, its packets, its lines, its leaders and its bases
pub data Life (o : Opening) : (ℕ → Standing) → List Packet → List Line → Leads → Bases → Type 0 where
  -- no node was started
  Dawn : (nodes : ℕ → Standing) → ((n : ℕ) → ((nodes n).inc ≡ 0) × ((nodes n).view ≡ (nodes n).promise) × ((nodes n).list ≡ [])) → Life o nodes [] [] (λ v. None) (λ v. None)
  -- an event begins
  NextEvent : (nodes : ℕ → Standing) (ps : List Packet) (all : List Line) (leads : Leads) (bases : Bases) → Life o nodes ps all leads bases → Life o nodes ps (Kept Begins ∷ all) leads bases
  -- a node promises more, or as much as it did
  Promises : (nodes now : ℕ → Standing) (ps : List Packet) (all : List Line) (leads : Leads) (bases : Bases) (n : ℕ) (x : Standing) (v : ViewId) → Life o nodes ps all leads bases → nodes n ≡ x → Le x.promise v → Changes nodes now n (record x { promise = v }) → Life o now ps all leads bases
  -- a node that has promised v, and is not in it, answers
  Answers : (nodes : ℕ → Standing) (ps : List Packet) (all : List Line) (leads : Leads) (bases : Bases) (n : ℕ) (x : Standing) (v : ViewId) → Life o nodes ps all leads bases → nodes n ≡ x → 0 < x.inc → Le v x.promise → Lt x.view v → Life o nodes (Answer v (record { node = n; inc = x.inc; view = x.view; list = x.list }) ∷ ps) all leads bases
  -- the leader appends what is due, or closes a phase by its tally, where it fits, and sends the entry
  Appends : (nodes now : ℕ → Standing) (ps : List Packet) (all : List Line) (leads : Leads) (bases : Bases) (n : ℕ) (x : Standing) (e : Entry) → Life o nodes ps all leads bases → nodes n ≡ x → 0 < x.inc → leads x.view ≡ Some (member n x.inc) → x.view ≡ x.promise → ((p : ProviderId) (r : ℕ) → Has (p, r) (carried e) → Due ps x.view x.list e p r) → IsTallied e → fits (state_of_list bases x.view x.list) e ≡ true → Changes nodes now n (grown x e) → Life o now (Append x.view (length x.list) e ∷ ps) (Kept (Put n x.view (length x.list) e) ∷ all) leads bases
  -- another appends an entry that was sent
  Follows : (nodes now : ℕ → Standing) (ps : List Packet) (all : List Line) (leads : Leads) (bases : Bases) (n : ℕ) (x : Standing) (e : Entry) → Life o nodes ps all leads bases → nodes n ≡ x → 0 < x.inc → x.view ≡ x.promise → Has (Append x.view (length x.list) e) ps → Changes nodes now n (grown x e) → Life o now ps (Kept (Put n x.view (length x.list) e) ∷ all) leads bases
  -- a node starts
  Starts : (nodes now : ℕ → Standing) (ps : List Packet) (all : List Line) (leads : Leads) (bases : Bases) (n : ℕ) (x : Standing) (v : ViewId) (ms : List Member) → Life o nodes ps all leads bases → nodes n ≡ x → Quiet (kept all) → Born o n (x.inc + 1) v ms → ((o ≡ Alone) ⊎ (leads v ≡ None)) → Changes nodes now n (record { inc = x.inc + 1; view = v; promise = v; list = [] }) → Life o now ps (Kept (In n (x.inc + 1) v ms) ∷ all) leads bases
  -- a member enters a view by its install
  Enters : (nodes now : ℕ → Standing) (ps : List Packet) (all : List Line) (leads : Leads) (bases : Bases) (n : ℕ) (x : Standing) (v : ViewId) (ms : List Member) (ss : ViewId → List Entry) → Life o nodes ps all leads bases → nodes n ≡ x → Quiet (kept all) → 0 < x.inc → x.promise ≡ v → Lt x.view v → Has (member n x.inc) ms → Has (Install v ms ss) ps → Changes nodes now n (record x { view = v; promise = v; list = [] }) → Life o now ps (entered n x v ms ss (bases v) all) leads bases
  -- the coordinator installs the view that it promised, and enters it; the base settles who leads
  Founds : (nodes now : ℕ → Standing) (ps : List Packet) (all : List Line) (leads leads' : Leads) (bases bases' : Bases) (n : ℕ) (x : Standing) (rs : List Reply) (ss : ViewId → List Entry) (b : Option Origin) → Life o nodes ps all leads bases → nodes n ≡ x → Quiet (kept all) → Collected ps n x rs ss → BaseIs rs ss (λ u. side_state bases ss u) b → SetAt bases bases' x.promise b → SetAt leads leads' x.promise (leader_of x.promise b) → Changes nodes now n (record x { view = x.promise; list = [] }) → Life o now (Install x.promise (members_of rs) ss ∷ ps) (entered n x x.promise (members_of rs) ss b all) leads' bases'
  -- a view without a leader gets one
  Names : (nodes : ℕ → Standing) (ps : List Packet) (all : List Line) (leads leads' : Leads) (bases : Bases) (v : ViewId) (n j : ℕ) → Life o nodes ps all leads bases → leads v ≡ None → SetAt leads leads' v (Some (member n j)) → Led ps (kept all) v n j → MayLead o v n → Life o nodes ps all leads' bases
  -- a provider hears what its node put, at its place among the lines
  Hears : (nodes : ℕ → Standing) (ps : List Packet) (all more : List Line) (leads : Leads) (bases : Bases) (p : ProviderId) (v : ViewId) (i : ℕ) (e : Entry) → Life o nodes ps all leads bases → Has (Put p.node v i e) (kept all) → (s : GroupState) → s ≡ state_of_list bases v (take (i + 1) (puts_of p.node v (kept all))) → Inserted (Heard p v i e s.members s.value) all more → Life o nodes ps more leads bases
  -- a request is taken
  Asks : (nodes : ℕ → Standing) (ps : List Packet) (all : List Line) (leads : Leads) (bases : Bases) (p : ProviderId) (r : ℕ) (x : Proposal) → Life o nodes ps all leads bases → Life o nodes ps (Noted (Asked p r x) ∷ all) leads bases
  -- a node sends a request that is outstanding, in the view that it is in
  Requests : (nodes : ℕ → Standing) (ps : List Packet) (all : List Line) (leads : Leads) (bases : Bases) (p : ProviderId) (r : ℕ) (x : Proposal) (y : Standing) → Life o nodes ps all leads bases → nodes p.node ≡ y → 0 < y.inc → y.inc ≡ p.inc → Has (Noted (Asked p r x)) all → ((u : ViewId) (k : ℕ) (e : Entry) → Has (Put p.node u k e) (kept all) → Has (p, r) (carried e) → ⊥) → ((u : ViewId) → Has (Noted (Told p r u)) all → ⊥) → Life o nodes (Request y.view p r x ∷ ps) all leads bases
  -- a leader refuses a request that it did not begin, or no one leads
  Refuses : (nodes : ℕ → Standing) (ps : List Packet) (all : List Line) (leads : Leads) (bases : Bases) (v : ViewId) (p : ProviderId) (r : ℕ) → Life o nodes ps all leads bases → ((leads v ≡ None) ⊎ ((n : ℕ) × (x : Standing) × (nodes n ≡ x) × (x.view ≡ v) × (leads v ≡ Some (member n x.inc)) × ((i : ℕ) (e : Entry) → slice_get x.list i ≡ Some e → Has (p, r) (carried e) → ⊥))) → Life o nodes (Refusal v p r ∷ ps) all leads bases
  -- a provider is told a refusal; or that its group was dissolved, when its node has entered a view in which it sent no request
  IsTold : (nodes : ℕ → Standing) (ps : List Packet) (all : List Line) (leads : Leads) (bases : Bases) (p : ProviderId) (r : ℕ) (y : Standing) → Life o nodes ps all leads bases → nodes p.node ≡ y → 0 < y.inc → y.inc ≡ p.inc → (Has (Refusal y.view p r) ps ⊎ ((x : Proposal) → Has (Request y.view p r x) ps → ⊥)) → Life o nodes ps (Noted (Told p r y.view) ∷ all) leads bases
  -- a member acknowledges what it holds
  Acknowledges : (nodes : ℕ → Standing) (ps : List Packet) (all : List Line) (leads : Leads) (bases : Bases) (n : ℕ) (x : Standing) (k : ℕ) → Life o nodes ps all leads bases → nodes n ≡ x → k ≤ length x.list → Life o nodes (Ack x.view n x.inc k ∷ ps) all leads bases
  -- what all members of a view acknowledged is stable there
  Settles : (nodes : ℕ → Standing) (ps : List Packet) (all : List Line) (leads : Leads) (bases : Bases) (n j : ℕ) (v : ViewId) (ms : List Member) (k : ℕ) → Life o nodes ps all leads bases → Has (In n j v ms) (kept all) → ((m i : ℕ) → Has (member m i) ms → (l : ℕ) × (k ≤ l) × Has (Ack v m i l) ps) → Life o nodes (Stable v k ∷ ps) all leads bases
