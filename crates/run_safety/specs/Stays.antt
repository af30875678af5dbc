-- Taking part: at which places of its node's lists a provider hears.
use Rattle.std.specs.Prelude.{ℕ, ◌+◌, Bool, true, false, not, ◌==◌, ◌&&◌, ◌||◌, List, [], ◌∷◌, ◌++◌, Option, Some, None, is_some, is_none, nat_le, if◌then◌else◌}
use Rattle.std.specs.List.{list_any}
use Rattle.std.specs.Str.{bytes_eq}
use Rattle.rsct_packet.specs.declared.ids.ViewId.{ViewId}
use Rattle.rsct_packet.specs.declared.ids.ProviderId.{ProviderId}
use Rattle.rsct_packet.specs.Providers.{among, same_provider}
use Rattle.rsct_packet.specs.Search.{place_where}
use Rattle.client_callbacks.specs.declared.told.Why.{Why}
use Rattle.client_callbacks.specs.declared.told.Why.TheVariants.{Dissolved}
use Rattle.proposal_core.specs.declared.entry.Entry.{Entry}
use Rattle.proposal_core.specs.declared.entry.Entry.TheVariants.{Once, Begin}
use Rattle.proposal_core.specs.declared.group_state.GroupState.{GroupState}
use Rattle.proposal_core.specs.Fold.{empty_state, after, joins_of, present}
use Rattle.node_state.specs.declared.happened.Happened.{Happened}
use Rattle.node_state.specs.declared.happened.Happened.TheVariants.{Up, Down, In, Base, Put, Asked, Told, Refused}
use Rattle.world_model.specs.Run.{Happening}
use Rattle.world_model.specs.declared.event.Event.{Event}
use Rattle.world_model.specs.declared.event.Event.TheVariants.{Call}
use Rattle.node_state.specs.declared.call.CallLine.{CallLine}
use Rattle.node_state.specs.declared.call.CallLine.TheVariants.{Join, Goodbye}
use Rattle.run_safety.specs.Past.{History, records_of, inc_now}

-- a node's stay in a view, for one group: the base there, and what it put
pub record Stay : Type 0 where
  pub view : ViewId
  pub base : GroupState
  pub entries : List Entry

abbrev pub with_base : GroupState → List Stay → List Stay
with_base s [] = []
with_base s (x ∷ xs) = record x { base = s } ∷ xs

abbrev pub with_entry : Entry → List Stay → List Stay
with_entry e [] = []
with_entry e (x ∷ xs) = record x { entries = x.entries ++ e ∷ [] } ∷ xs

-- the stays of the node since it started, the latest first
abbrev pub stays_after : ℕ → List ℕ → Happened → List Stay → List Stay
stays_after n g (Up m j) old = if m == n then [] else old
stays_after n g (Down m) old = if m == n then [] else old
stays_after n g (In m v ms) old = if m == n then record { view = v; base = empty_state; entries = [] } ∷ old else old
stays_after n g (Base m v h u len s) old = if m == n && bytes_eq h g then with_base s old else old
stays_after n g (Put m v h i e) old = if m == n && bytes_eq h g then with_entry e old else old
stays_after n g _ old = old

abbrev pub stays : ℕ → List ℕ → List Happened → List Stay
stays n g [] = []
stays n g (r ∷ rs) = stays_after n g r (stays n g rs)

-- a join that names the provider begins
abbrev pub is_join_of : ProviderId → Entry → Bool
is_join_of p (Once x) = among (joins_of x) p
is_join_of p (Begin x) = among (joins_of x) p
is_join_of p _ = false

-- the first and the last place of a provider in a stay, where it has them
pub record Part : Type 0 where
  pub first : Option ℕ
  pub last : Option ℕ

abbrev pub no_part : Part
no_part = record { first = None; last = None }

-- who took part up to the end of the stay before, and lives in the base, passes into the view
abbrev pub passes : ProviderId → GroupState → Part → Bool
passes p base old = is_some old.first && (is_none old.last && (among (present base) p && not (among base.failed p)))

abbrev pub first_in : ProviderId → List Entry → Bool → Option ℕ
first_in p es true = Some 0
first_in p es false = place_where (is_join_of p) es

-- the least place, from the first one on, after whose entry the provider is neither member nor running joiner
abbrev pub last_from : ProviderId → ViewId → ℕ → GroupState → ℕ → List Entry → Option ℕ
last_from p v first s i [] = None
last_from p v first s i (e ∷ es) =
    if nat_le first i && not (among (present (after s v i e)) p)
    then Some i
    else last_from p v first (after s v i e) (i + 1) es

abbrev pub last_in : ProviderId → Stay → Option ℕ → Option ℕ
last_in p s None = None
last_in p s (Some first) = last_from p s.view first s.base 0 s.entries

abbrev pub part_with : ProviderId → Stay → Option ℕ → Part
part_with p s first = record { first = first; last = last_in p s first }

abbrev pub part : ProviderId → List Stay → Part
part p [] = no_part
part p (s ∷ older) = part_with p s (first_in p s.entries (passes p s.base (part p older)))

abbrev pub from_first : ℕ → Option ℕ → Bool
from_first i None = false
from_first i (Some first) = nat_le first i

abbrev pub up_to_last : ℕ → Option ℕ → Bool
up_to_last i None = true
up_to_last i (Some last) = nat_le i last

-- it takes part at every place from its first to its last
abbrev pub takes_part : ℕ → Part → Bool
takes_part i x = from_first i x.first && up_to_last i x.last

abbrev pub is_join_call : CallLine → Option (List ℕ)
is_join_call (Join client g k attrs) = Some client
is_join_call _ = None

abbrev pub joining_client : Option Event → Option (List ℕ)
joining_client None = None
joining_client (Some (Call n c)) = is_join_call c
joining_client (Some _) = None

abbrev pub asks_join : ProviderId → Happened → Bool
asks_join p (Asked q r g x) = same_provider q p && r == p.join
asks_join p _ = false

-- the client whose call joins the provider
abbrev pub client_of : ProviderId → History → Option (List ℕ)
client_of p [] = None
client_of p (e ∷ before) = if list_any (asks_join p) e.records then joining_client e.event else client_of p before

abbrev pub is_named : List ℕ → Option (List ℕ) → Bool
is_named c None = false
is_named c (Some d) = bytes_eq c d

abbrev pub goodbye_of : ℕ → Option (List ℕ) → Option Event → Bool
goodbye_of n client None = false
goodbye_of n client (Some (Call m (Goodbye c))) = m == n && is_named c client
goodbye_of n client (Some _) = false

abbrev pub is_refused : Happened → Bool
is_refused (Refused n c fault) = true
is_refused _ = false

abbrev pub is_dissolved : Why → Bool
is_dissolved Dissolved = true
is_dissolved _ = false

-- the provider is told that its group was dissolved, or its node goes down in the provider's incarnation
abbrev pub ends : ProviderId → ℕ → Happened → Bool
ends p inc (Told q r why) = same_provider q p && is_dissolved why
ends p inc (Down m) = m == p.node && inc == p.inc
ends p inc _ = false

-- the event lets the provider go: its client says goodbye, it is told DISSOLVED, or its node goes down
abbrev pub lets_go : ProviderId → Happening → History → Bool
lets_go p e before =
    list_any (ends p (inc_now p.node (records_of before))) e.records || (goodbye_of p.node (client_of p before) e.event && not (list_any is_refused e.records))

abbrev pub was_let_go : ProviderId → History → Bool
was_let_go p [] = false
was_let_go p (e ∷ before) = lets_go p e before || was_let_go p before
