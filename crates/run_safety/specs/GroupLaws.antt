-- What holds of every life of a group, over its records and packets. What is said of the lists of one group's views
-- stands in GroupLists.
use Rattle.std.specs.Prelude.{ℕ, ◌+◌, ◌≤◌, ◌<◌, ◌≡◌, ◌⊎◌, List, [], ◌∷◌, length, take, Some, None, slice_get}
use Rattle.rsct_packet.specs.declared.ids.ViewId.{ViewId}
use Rattle.rsct_packet.specs.declared.ids.ProviderId.{ProviderId}
use Rattle.rsct_packet.specs.declared.ids.Member.{Member}
use Rattle.proposal_core.specs.declared.entry.Entry.{Entry}
use Rattle.proposal_core.specs.declared.proposal.Proposal.{Proposal}
use Rattle.proposal_core.specs.declared.group_state.GroupState.{GroupState}
use Rattle.rsct_packet.specs.Search.{Has}
use Rattle.run_safety.specs.Group.{member, Reply, members_of, Origin, Packet, Install, Stable, Record, In, Put, Begins, Based, Heard, Asked, Told, Line, Kept, Noted, kept}
use Rattle.run_safety.specs.GroupLists.{puts_of, From, IsCut}
use Rattle.run_safety.specs.Bases.{Bases, state_of_list, side_state, BaseIs, leader_of}
use Rattle.run_safety.specs.Requests.{carried, Meets}
use Rattle.run_safety.specs.Moves.{Leads, Opening, MayLead}

-- an earlier put of the place
abbrev pub Earlier : List Record → ViewId → ℕ → Type 0
Earlier tr v i = (m : ℕ) × (f : Entry) × Has (Put m v i f) tr

-- each put is the leader's, or not the first of its place
abbrev pub ByLeader : Leads → List Record → Type 0
ByLeader leads [] = Unit {0}
ByLeader leads (Put n v i e ∷ tr) = (((j : ℕ) × (leads v ≡ Some (member n j))) ⊎ Earlier tr v i) × ByLeader leads tr
ByLeader leads (In n j v ms ∷ tr) = ByLeader leads tr
ByLeader leads (Begins ∷ tr) = ByLeader leads tr

-- the leader of a view is that of its base, where there is one; in mode fixed and without a base it is the coordinator
pub record Leading (o : Opening) (tr : List Record) (leads : Leads) (bases : Bases) : Type 0 where
  pub firsts : ByLeader leads tr
  pub of_base : (v : ViewId) (b : Origin) → bases v ≡ Some b → leads v ≡ leader_of v (Some b)
  pub of_none : (v : ViewId) (n j : ℕ) → bases v ≡ None → leads v ≡ Some (member n j) → MayLead o v n

-- a base is one for all nodes that enter the view, each of them notes it, and nobody else does
pub record OneBase (all : List Line) (bases : Bases) : Type 0 where
  pub noted : (n : ℕ) (v : ViewId) (b : Origin) → Has (Noted (Based n v b)) all → bases v ≡ Some b
  pub by_all : (n j : ℕ) (v : ViewId) (ms : List Member) (b : Origin) → Has (In n j v ms) (kept all) → bases v ≡ Some b → Has (Noted (Based n v b)) all
  pub entered : (n : ℕ) (v : ViewId) (b : Origin) → Has (Noted (Based n v b)) all → (j : ℕ) × (ms : List Member) × Has (In n j v ms) (kept all)

-- the base of an installed view, from what its members brought: for each its old view, and for each old view the
-- entries up to the cut
pub record Brought (tr : List Record) (bases : Bases) (v : ViewId) (ms : List Member) (rs : List Reply) (ss : ViewId → List Entry) : Type 0 where
  pub members : ms ≡ members_of rs
  pub from : (r : Reply) → Has r rs → From tr r.node r.inc v r.view
  pub cut : (r : Reply) → Has r rs → IsCut tr ms r.view v (length (ss r.view))
  pub entries : (r : Reply) (i : ℕ) (e : Entry) → Has r rs → slice_get (ss r.view) i ≡ Some e → (m : ℕ) × Has (Put m r.view i e) tr

abbrev pub BaseOfInstall : List Packet → List Record → Bases → Type 0
BaseOfInstall ps tr bases =
    (v : ViewId) (ms : List Member) (ss : ViewId → List Entry) → Has (Install v ms ss) ps → (rs : List Reply) × Brought tr bases v ms rs ss × BaseIs rs ss (λ u. side_state bases ss u) (bases v)

-- what a provider heard is the entry at that place, with the members and the value that the entries up to it make of
-- the base: the same from every list of that view that is long enough
abbrev pub HeardIsFold : List Line → Bases → Type 0
HeardIsFold all bases =
    (p : ProviderId) (v : ViewId) (i : ℕ) (e : Entry) (ms : List ProviderId) (value : List ℕ) → Has (Noted (Heard p v i e ms value)) all → (m : ℕ) → i < length (puts_of m v (kept all)) → let s : GroupState = state_of_list bases v (take (i + 1) (puts_of m v (kept all))) in (slice_get (puts_of m v (kept all)) i ≡ Some e) × (ms ≡ s.members) × (value ≡ s.value)

-- at its own node a request begins at one place of one view
abbrev pub BegunOnce : List Record → Type 0
BegunOnce tr =
    (p : ProviderId) (r : ℕ) (u v : ViewId) (i k : ℕ) (e f : Entry) → Has (Put p.node u i e) tr → Has (p, r) (carried e) → Has (Put p.node v k f) tr → Has (p, r) (carried f) → (u ≡ v) × (i ≡ k)

-- at its own node it begins after it was asked, with that proposal, and not after it was told a refusal
abbrev pub AskedAndUntold : List Line → ℕ → Entry → Type 0
AskedAndUntold all n e =
    (p : ProviderId) (r : ℕ) → p.node ≡ n → Has (p, r) (carried e) → ((x : Proposal) × Has (Noted (Asked p r x)) all × Meets p x e) × ((u : ViewId) → Has (Noted (Told p r u)) all → ⊥)

abbrev pub AskedFirst : List Line → Type 0
AskedFirst [] = Unit {0}
AskedFirst (Kept (Put n v i e) ∷ all) = AskedAndUntold all n e × AskedFirst all
AskedFirst (Kept (In n j v ms) ∷ all) = AskedFirst all
AskedFirst (Kept Begins ∷ all) = AskedFirst all
AskedFirst (Noted x ∷ all) = AskedFirst all

-- whatever an entry carries was asked in this group, with that proposal, at whatever node the entry is put
abbrev pub CarriedWereAsked : List Line → Type 0
CarriedWereAsked all =
    (n : ℕ) (v : ViewId) (i : ℕ) (e : Entry) (p : ProviderId) (r : ℕ) → Has (Put n v i e) (kept all) → Has (p, r) (carried e) → (x : Proposal) × Has (Noted (Asked p r x)) all × Meets p x e

pub record RequestsOnce (all : List Line) : Type 0 where
  pub once : BegunOnce (kept all)
  pub asked_first : AskedFirst all
  pub were_asked : CarriedWereAsked all

-- what is stable every member of the view has put
abbrev pub StableHeld : List Packet → List Record → Type 0
StableHeld ps tr =
    (v : ViewId) (k : ℕ) → Has (Stable v k) ps → (n j : ℕ) (ms : List Member) → Has (In n j v ms) tr → (m i : ℕ) → Has (member m i) ms → k ≤ length (puts_of m v tr)
