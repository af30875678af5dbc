-- What the records of one group, the latest first, say of its lists and of the views of nodes.
use Rattle.std.specs.Prelude.{ℕ, ◌+◌, Bool, true, false, ◌&&◌, not, ◌≤◌, ◌==◌, ◌≡◌, List, [], ◌∷◌, ◌++◌, length, if◌then◌else◌}
use Rattle.rsct_packet.specs.declared.ids.ViewId.{ViewId}
use Rattle.rsct_packet.specs.declared.ids.Member.{Member}
use Rattle.proposal_core.specs.declared.entry.Entry.{Entry}
use Rattle.rsct_packet.specs.Search.{Has}
use Rattle.run_safety.specs.ViewOrder.{is_same, Lt, Le}
use Rattle.run_safety.specs.Group.{member, Packet, Install, Record, In, Put, Begins}

-- two puts at one place of one view have the same entry
abbrev pub OneEntryOf : List Record → Type 0
OneEntryOf tr =
    (n m : ℕ) (v : ViewId) (i : ℕ) (e f : Entry) → Has (Put n v i e) tr → Has (Put m v i f) tr → e ≡ f

-- the views that a node enters rise within an incarnation
abbrev pub Rises : List Record → Type 0
Rises [] = Unit {0}
Rises (In n j v ms ∷ tr) = ((u : ViewId) (ns : List Member) → Has (In n j u ns) tr → Lt u v) × Rises tr
Rises (Put n v i e ∷ tr) = Rises tr
Rises (Begins ∷ tr) = Rises tr

-- there is one install of a view
abbrev pub OneInstall : List Packet → Type 0
OneInstall ps =
    (v : ViewId) (ms ns : List Member) (ss ts : ViewId → List Entry) → Has (Install v ms ss) ps → Has (Install v ns ts) ps → (ms ≡ ns) × (ss ≡ ts)

-- the entries that a node put in a view, in order
abbrev pub puts_of : ℕ → ViewId → List Record → List Entry
puts_of n u [] = []
puts_of n u (In m j v ms ∷ tr) = puts_of n u tr
puts_of n u (Put m v i e ∷ tr) = if m == n && is_same v u then puts_of n u tr ++ e ∷ [] else puts_of n u tr
puts_of n u (Begins ∷ tr) = puts_of n u tr

-- how many it put before the event in which it left the view: not those that its entering another follows in one event
abbrev pub held_by : ℕ → ViewId → Bool → List Record → ℕ
held_by n u left [] = 0
held_by n u left (In m j v ms ∷ tr) = if m == n then held_by n u true tr else held_by n u left tr
held_by n u left (Put m v i e ∷ tr) =
    if m == n && (is_same v u && not left) then held_by n u left tr + 1 else held_by n u left tr
held_by n u left (Begins ∷ tr) = held_by n u false tr

abbrev pub held : ℕ → ViewId → List Record → ℕ
held n u tr = held_by n u false tr

-- the places of one node's entries of one view are 0, 1, 2 and on, in order
abbrev pub InOrder : List Record → Type 0
InOrder [] = Unit {0}
InOrder (In n j v ms ∷ tr) = InOrder tr
InOrder (Put n v i e ∷ tr) = (i ≡ length (puts_of n v tr)) × InOrder tr
InOrder (Begins ∷ tr) = InOrder tr

-- the node entered the view with this incarnation
abbrev pub WasIn : List Record → ℕ → ℕ → ViewId → Type 0
WasIn tr n j u = (ms : List Member) × Has (In n j u ms) tr

-- the greatest view less than v that the node entered with this incarnation
pub record From (tr : List Record) (n j : ℕ) (v u : ViewId) : Type 0 where
  pub was : WasIn tr n j u
  pub less : Lt u v
  pub last : (t : ViewId) → WasIn tr n j t → Lt t v → Le t u

-- who comes from a view to another has the same list of the first as each other who does
abbrev pub SameLists : List Record → Type 0
SameLists tr =
    (n m j i : ℕ) (v w : ViewId) (ms ns : List Member) → Has (In n j w ms) tr → Has (In m i w ns) tr → From tr n j w v → From tr m i w v → puts_of n v tr ≡ puts_of m v tr

-- the greatest number that a member from u held
pub record IsCut (tr : List Record) (ms : List Member) (u v : ViewId) (k : ℕ) : Type 0 where
  pub most : (m i : ℕ) → Has (member m i) ms → From tr m i v u → held m u tr ≤ k
  pub one : (m : ℕ) × (i : ℕ) × Has (member m i) ms × From tr m i v u × (held m u tr ≡ k)

-- each node that enters v from u has then just as many entries of u as the cut
abbrev pub CutHolds : List Record → Type 0
CutHolds tr =
    (n j : ℕ) (u v : ViewId) (ms : List Member) → Has (In n j v ms) tr → From tr n j v u → IsCut tr ms u v (length (puts_of n u tr))

-- all nodes that enter a view name the same members, and each is one of them with its incarnation
abbrev pub SameMembers : List Record → Type 0
SameMembers tr =
    (n m j i : ℕ) (v : ViewId) (ms ns : List Member) → Has (In n j v ms) tr → Has (In m i v ns) tr → (ms ≡ ns) × Has (member n j) ms
