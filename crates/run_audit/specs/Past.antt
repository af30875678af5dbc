-- What the lines before one say, the latest first: nodes, views, lists, bases, states.
use Rattle.std.specs.Prelude.{ℕ, Bool, true, false, not, ◌==◌, ◌&&◌, ◌+◌, List, [], ◌∷◌, ◌++◌, length, take, Option, Some, None, nat_le, is_some, is_none, if◌then◌else◌}
use Rattle.std.specs.Str.{bytes_eq}
use Rattle.rsct_packet.specs.declared.ids.Member.{Member}
use Rattle.rsct_packet.specs.declared.ids.ProviderId.{ProviderId}
use Rattle.rsct_packet.specs.declared.ids.ViewId.{ViewId}
use Rattle.rsct_packet.specs.Ids.{same_view, view_lt}
use Rattle.rsct_packet.specs.Providers.{among, same_provider}
use Rattle.rsct_packet.specs.Search.{place_where}
use Rattle.proposal_core.specs.declared.entry.Entry.{Entry}
use Rattle.proposal_core.specs.declared.entry.Entry.TheVariants as entry
use Rattle.proposal_core.specs.declared.group_state.GroupState.{GroupState}
use Rattle.proposal_core.specs.Fold.{empty_state, after, joins_of, present}
use Rattle.record_lines.specs.declared.line.BaseLine.{BaseLine}
use Rattle.record_lines.specs.declared.line.Line.{Line}
use Rattle.record_lines.specs.declared.line.Line.TheVariants.{Up, In, Base, Put, Heard}

-- ---- numbers of lines: the last of so many is that many

-- the first line that passes, and the last
unfoldable pub first_no : (Line → Bool) → List Line → Option ℕ
first_no test [] = None
first_no test (l ∷ ls) = elim (first_no test ls) [ Some k ↦ Some k | None ↦ elim (test l) [ true ↦ Some (length ls + 1) | false ↦ None ] ]

unfoldable pub last_no : (Line → Bool) → List Line → Option ℕ
last_no test [] = None
last_no test (l ∷ ls) = elim (test l) [ true ↦ Some (length ls + 1) | false ↦ last_no test ls ]

-- ---- nodes and views

-- the incarnation of the node's last up line
unfoldable pub inc_after : ℕ → Line → Option ℕ → Option ℕ
inc_after n (Up m j) old = if m == n then Some j else old
inc_after n _ old = old

unfoldable pub inc_of : ℕ → List Line → Option ℕ
inc_of n [] = None
inc_of n (l ∷ ls) = inc_after n l (inc_of n ls)

-- the node's view: that of its last in line since its last up line
unfoldable pub view_after : ℕ → Line → Option ViewId → Option ViewId
view_after n (Up m j) old = if m == n then None else old
view_after n (In m v ms) old = if m == n then Some v else old
view_after n _ old = old

unfoldable pub view_of : ℕ → List Line → Option ViewId
view_of n [] = None
view_of n (l ∷ ls) = view_after n l (view_of n ls)

unfoldable pub is_at : ViewId → Option ViewId → Bool
is_at v None = false
is_at v (Some u) = same_view u v

-- the members of a view: those of its first in line
unfoldable pub or_members : Option (List Member) → List Member → Option (List Member)
or_members None ms = Some ms
or_members (Some ns) ms = Some ns

unfoldable pub members_after : ViewId → Line → Option (List Member) → Option (List Member)
members_after v (In m u ms) old = if same_view u v then or_members old ms else old
members_after v _ old = old

unfoldable pub members_of : ViewId → List Line → Option (List Member)
members_of v [] = None
members_of v (l ∷ ls) = members_after v l (members_of v ls)

unfoldable pub listed : Option (List Member) → List Member
listed None = []
listed (Some ms) = ms

-- the incarnation in which the node is a member
unfoldable pub inc_in : ℕ → List Member → ℕ
inc_in n [] = 0
inc_in n (m ∷ ms) = if m.node == n then m.inc else inc_in n ms

-- the greater of two views
unfoldable pub greater : ViewId → Option ViewId → ViewId
greater u None = u
greater u (Some t) = if view_lt t u then u else t

-- where a node came from into v: the greatest view less than v that it entered in this incarnation
unfoldable pub from_after : ℕ → ℕ → ViewId → Line → Option ViewId → Option ViewId
from_after m j v (In n u ms) old = if n == m && (inc_in m ms == j && view_lt u v) then Some (greater u old) else old
from_after m j v _ old = old

unfoldable pub from_of : ℕ → ℕ → ViewId → List Line → Option ViewId
from_of m j v [] = None
from_of m j v (l ∷ ls) = from_after m j v l (from_of m j v ls)

-- ---- lists

unfoldable pub is_list : ViewId → List ℕ → ViewId → List ℕ → Bool
is_list v g u h = same_view u v && bytes_eq h g

-- the entries that the node put into the view's list of the group, in order
unfoldable pub puts_after : ℕ → ViewId → List ℕ → Line → List Entry → List Entry
puts_after n v g (Put m u h i e) old = if m == n && is_list v g u h then old ++ e ∷ [] else old
puts_after n v g _ old = old

unfoldable pub puts_of : ℕ → ViewId → List ℕ → List Line → List Entry
puts_of n v g [] = []
puts_of n v g (l ∷ ls) = puts_after n v g l (puts_of n v g ls)

-- the list of the group in the view: the first put of each place
unfoldable pub list_after : ViewId → List ℕ → Line → List Entry → List Entry
list_after v g (Put m u h i e) old = if is_list v g u h && i == length old then old ++ e ∷ [] else old
list_after v g _ old = old

unfoldable pub list_of : ViewId → List ℕ → List Line → List Entry
list_of v g [] = []
list_of v g (l ∷ ls) = list_after v g l (list_of v g ls)

-- the state after entries of a view, which stand from a place on
unfoldable pub fold_from : ViewId → GroupState → ℕ → List Entry → GroupState
fold_from v s i [] = s
fold_from v s i (e ∷ es) = fold_from v (after s v i e) (i + 1) es

-- ---- bases

-- the base of the group in the view: its first base line
unfoldable pub or_base : Option BaseLine → BaseLine → Option BaseLine
or_base None b = Some b
or_base (Some a) b = Some a

unfoldable pub base_after : ViewId → List ℕ → Line → Option BaseLine → Option BaseLine
base_after v g (Base m u h b) old = if is_list v g u h then or_base old b else old
base_after v g _ old = old

unfoldable pub base_of : ViewId → List ℕ → List Line → Option BaseLine
base_of v g [] = None
base_of v g (l ∷ ls) = base_after v g l (base_of v g ls)

-- the state that the list begins with: what the base's old list is up to its length, with the failed that the line names; the
-- empty state where there is no base
unfoldable pub base_state : ViewId → List ℕ → List Line → GroupState
base_state v g [] = empty_state
base_state v g (Base m u h b ∷ ls) =
    elim (is_list v g u h && is_none (base_of v g ls)) [
      | true ↦ record (fold_from b.old (base_state b.old g ls) 0 (take b.len (list_of b.old g ls))) { failed = b.failed }
      | false ↦ base_state v g ls
    ]
base_state v g (l ∷ ls) = base_state v g ls

-- the node's state of the group in the view: the fold of its own puts over the base
unfoldable pub state_of : ℕ → ViewId → List ℕ → List Line → GroupState
state_of n v g ls = fold_from v (base_state v g ls) 0 (puts_of n v g ls)

-- ---- taking part

-- a node's stay in a view, for one group: whether it came from the stay before, the base as it was when the node left, and what
-- it put
pub record Stay : Type 0 where
  pub view : ViewId
  pub on : Bool
  pub base : GroupState
  pub entries : List Entry

unfoldable pub with_base : ViewId → GroupState → List Stay → List Stay
with_base v s [] = []
with_base v s (x ∷ xs) = if same_view x.view v then record x { base = s } ∷ xs else x ∷ xs

unfoldable pub with_entry : ViewId → Entry → List Stay → List Stay
with_entry v e [] = []
with_entry v e (x ∷ xs) = if same_view x.view v then record x { entries = x.entries ++ e ∷ [] } ∷ xs else x ∷ xs

-- the stays of the node, the latest first
unfoldable pub stays : ℕ → List ℕ → List Line → List Stay
stays n g [] = []
stays n g (In m v ms ∷ ls) =
    let old : List Stay = stays n g ls in
    elim (m == n) [ true ↦ record { view = v; on = is_some (view_of n ls); base = base_state v g ls; entries = [] } ∷ old | false ↦ old ]
stays n g (Base m v h b ∷ ls) =
    let old : List Stay = stays n g ls in
    elim (bytes_eq h g) [ true ↦ with_base v (base_state v g (Base m v h b ∷ ls)) old | false ↦ old ]
stays n g (Put m v h i e ∷ ls) = let old : List Stay = stays n g ls in elim (m == n && bytes_eq h g) [ true ↦ with_entry v e old | false ↦ old ]
stays n g (l ∷ ls) = stays n g ls

-- from the stay in v on
unfoldable pub stays_to : ViewId → List Stay → List Stay
stays_to v [] = []
stays_to v (x ∷ xs) = elim (same_view x.view v) [ true ↦ x ∷ xs | false ↦ stays_to v xs ]

-- a join that names the provider begins
unfoldable pub is_join_of : ProviderId → Entry → Bool
is_join_of p (entry.Once x) = among (joins_of x) p
is_join_of p (entry.Begin x) = among (joins_of x) p
is_join_of p _ = false

-- the first and the last place of a provider in a stay, where it has them
pub record Part : Type 0 where
  pub first : Option ℕ
  pub last : Option ℕ

unfoldable pub no_part : Part
no_part = record { first = None; last = None }

-- who took part up to the end of the stay before, and lives in the base, passes into the view
unfoldable pub passes : ProviderId → GroupState → Part → Bool
passes p base old = is_some old.first && (is_none old.last && (among (present base) p && not (among base.failed p)))

unfoldable pub first_in : ProviderId → List Entry → Bool → Option ℕ
first_in p es true = Some 0
first_in p es false = place_where (is_join_of p) es

-- the least place, from the first one on, after whose entry the provider is neither member nor running joiner
unfoldable pub last_from : ProviderId → ViewId → ℕ → GroupState → ℕ → List Entry → Option ℕ
last_from p v first s i [] = None
last_from p v first s i (e ∷ es) =
    elim (nat_le first i && not (among (present (after s v i e)) p)) [ true ↦ Some i | false ↦ last_from p v first (after s v i e) (i + 1) es ]

unfoldable pub last_in : ProviderId → Stay → Option ℕ → Option ℕ
last_in p s None = None
last_in p s (Some first) = last_from p s.view first s.base 0 s.entries

unfoldable pub part_with : ProviderId → Stay → Option ℕ → Part
part_with p s first = record { first = first; last = last_in p s first }

unfoldable pub part : ProviderId → List Stay → Part
part p [] = no_part
part p (s ∷ older) = part_with p s (first_in p s.entries (s.on && passes p s.base (part p older)))

unfoldable pub part_of : ProviderId → ViewId → List ℕ → List Line → Part
part_of p v g ls = part p (stays_to v (stays p.node g ls))

unfoldable pub from_first : ℕ → Option ℕ → Bool
from_first i None = false
from_first i (Some first) = nat_le first i

unfoldable pub up_to_last : ℕ → Option ℕ → Bool
up_to_last i None = true
up_to_last i (Some last) = nat_le i last

unfoldable pub takes_part : ℕ → Part → Bool
takes_part i x = from_first i x.first && up_to_last i x.last

-- the place of the view's list that the provider heard last
unfoldable pub heard_after : ProviderId → ViewId → List ℕ → Line → Option ℕ → Option ℕ
heard_after p v g (Heard q u h i w ms value) old = if same_provider q p && is_list v g u h then Some i else old
heard_after p v g _ old = old

unfoldable pub last_heard : ProviderId → ViewId → List ℕ → List Line → Option ℕ
last_heard p v g [] = None
last_heard p v g (l ∷ ls) = heard_after p v g l (last_heard p v g ls)

-- opens each word of this file, for a computation
unfoldable pub past_opens : Unit {0}
unfolding first_no last_no inc_after inc_of view_after view_of is_at or_members members_after members_of listed inc_in greater from_after from_of is_list puts_after puts_of list_after list_of fold_from or_base base_after base_of base_state state_of with_base with_entry stays stays_to is_join_of no_part passes first_in last_from last_in part_with part part_of from_first up_to_last takes_part heard_after last_heard
past_opens = tt
