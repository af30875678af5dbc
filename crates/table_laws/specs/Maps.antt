-- The map of a group's list at a place, by the records of a run.
use Rattle.std.specs.Prelude.{◌≡◌, ℕ, ◌+◌, ◌≤◌, List, [], length, Some}
use Rattle.rsct_packet.specs.declared.ids.ViewId.{ViewId}
use Rattle.rsct_packet.specs.Search.{Has}
use Rattle.proposal_core.specs.declared.entry.Entry.{Entry}
use Rattle.proposal_core.specs.declared.group_state.GroupState.{GroupState}
use Rattle.proposal_core.specs.declared.group_state.Running.{Running}
use Rattle.node_state.specs.declared.config.Config.{Config}
use Rattle.node_state.specs.declared.happened.Happened.{Happened}
use Rattle.node_state.specs.declared.happened.Happened.TheVariants.{Base, Put}
use Rattle.agreed_table.specs.Pairs.{Pairs}
use Rattle.table_client.specs.Maps.{Lists, AreSafe, entry_map}
use Rattle.table_client.specs.Maps as maps
use Rattle.run_safety.specs.Past.{puts_of, state_at}
use Rattle.world_laws.specs.world_answers.Answers.{Answered, events_in, answered_after}
use Rattle.world_safety.specs.Events.{AllMayHappen}
use Rattle.world_safety.specs.Scripts.{history_in}
use Rattle.run_safety.specs.Sight.{lines_of}
use Rattle.table_laws.specs.GroupLists.{lists_of}

-- no node notes a base of the group in the view
abbrev pub HasNoBase : List Happened → List ℕ → ViewId → Type 0
HasNoBase rs g v = (n : ℕ) (u : ViewId) (len : ℕ) (s : GroupState) → Has (Base n v g u len s) rs → ⊥

-- By these records this is the map of the group in a view after so many entries of its list. A view without a base begins with
-- the empty map, one with a base with the map of the old view at the base's length; and each entry makes the next.
pub data MapIs (rs : List Happened) (g : List ℕ) : ViewId → ℕ → Pairs → Type 0 where
  Fresh : (v : ViewId) (i : ℕ) (m : Pairs) → i ≡ 0 → m ≡ [] → HasNoBase rs g v → MapIs rs g v i m
  Based : (v : ViewId) (i : ℕ) (m : Pairs) (n : ℕ) (u : ViewId) (len : ℕ) (s : GroupState) → i ≡ 0 → Has (Base n v g u len s) rs → MapIs rs g u len m → MapIs rs g v i m
  Then : (v : ViewId) (i : ℕ) (m : Pairs) (n : ℕ) (j : ℕ) (e : Entry) (before : Pairs) → i ≡ j + 1 → m ≡ entry_map (state_at n v g j rs) v j e before → Has (Put n v g j e) rs → MapIs rs g v j before → MapIs rs g v i m

-- ---- of any run whose events may happen, whatever clients answer

-- the map at a place is one
abbrev pub MapsAreOne : Type 0
MapsAreOne =
    (c : Config) (es : List Answered) → AllMayHappen c (events_in es) → (g : List ℕ) (v : ViewId) (i : ℕ) (m k : Pairs) → MapIs (answered_after c es).trace g v i m → MapIs (answered_after c es).trace g v i k → m ≡ k

-- a node put an entry at this place
abbrev pub Reaches : List Happened → List ℕ → ℕ → ViewId → ℕ → Type 0
Reaches rs g n v i = (e : Entry) × Has (Put n v g i e) rs

-- before an entry that a node put its group's state runs a protocol: the map there is the one directly behind the protocol's
-- Begin, in whatever view that stood
abbrev pub MapsStayWhileRunning : Type 0
MapsStayWhileRunning =
    (c : Config) (es : List Answered) → AllMayHappen c (events_in es) → (g : List ℕ) (n : ℕ) (v : ViewId) (i : ℕ) (m k : Pairs) (run : Running) → Reaches (answered_after c es).trace g n v i
    → MapIs (answered_after c es).trace g v i m → (state_at n v g i (answered_after c es).trace).running ≡ Some run → MapIs (answered_after c es).trace g run.proto.view (run.proto.place + 1) k → m ≡ k

-- and where it has no members the map is empty
abbrev pub MapsAreEmptyWithoutMembers : Type 0
MapsAreEmptyWithoutMembers =
    (c : Config) (es : List Answered) → AllMayHappen c (events_in es) → (g : List ℕ) (n : ℕ) (v : ViewId) (i : ℕ) (m : Pairs) → Reaches (answered_after c es).trace g n v i
    → MapIs (answered_after c es).trace g v i m → (state_at n v g i (answered_after c es).trace).members ≡ [] → m ≡ []

-- there is a map at each place up to which a node has put entries
abbrev pub MapsExist : Type 0
MapsExist =
    (c : Config) (es : List Answered) → AllMayHappen c (events_in es) → (g : List ℕ) (n : ℕ) (v : ViewId) (i : ℕ) → i ≤ length (puts_of n v g (answered_after c es).trace) → (m : Pairs) × MapIs (answered_after c es).trace g v i m

-- ---- the lists of a group of such a run

abbrev pub group_lists : Config → List Answered → List ℕ → Lists
group_lists c es g = lists_of (lines_of g (history_in c es))

-- they are as the laws on copies want them, and the maps of their places are those by the records
pub record ListsSay (c : Config) (es : List Answered) (g : List ℕ) : Type 0 where
  pub safe : AreSafe (group_lists c es g)
  pub of_lists : (v : ViewId) (i : ℕ) (m : Pairs) → MapIs (answered_after c es).trace g v i m → maps.MapIs (group_lists c es g) v i m
  pub of_records : (v : ViewId) (i : ℕ) (m : Pairs) → maps.MapIs (group_lists c es g) v i m → MapIs (answered_after c es).trace g v i m

abbrev pub ListsSayMaps : Type 0
ListsSayMaps = (c : Config) (es : List Answered) → AllMayHappen c (events_in es) → (g : List ℕ) → ListsSay c es g
