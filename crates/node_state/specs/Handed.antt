-- What of a step's records tells what a client was handed and what it filled, and the states of groups along the
-- records.
use Rattle.std.specs.Prelude.{◌≡◌, ℕ, Bool, true, false, List, [], ◌∷◌, ◌++◌, filter, if◌then◌else◌}
use Rattle.std.specs.Str.{bytes_eq}
use Rattle.proposal_core.specs.declared.group_state.GroupState.{GroupState}
use Rattle.proposal_core.specs.Fold.{empty_state, after}
use Rattle.node_state.specs.declared.happened.Happened.{Happened}
use Rattle.node_state.specs.declared.happened.Happened.TheVariants as happened
use Rattle.node_state.specs.declared.state.Core.{Core}
use Rattle.node_state.specs.State.{InNameOrder, state_of}

-- a client was handed this, filled it into the ballot of what it was handed, or was told it
abbrev pub is_handed : Happened → Bool
is_handed (happened.Heard p v g i e members value) = true
is_handed (happened.Cast p proto phase vote value message) = true
is_handed (happened.Told p r why) = true
is_handed (happened.Noted node client v i told) = true
is_handed _ = false

abbrev pub handed_in : List Happened → List Happened
handed_in rs = filter is_handed rs

-- ---- the states of a node's groups

-- the state of a group after a record of the node, which may be the entering of a view, a base, or an entry that is put
abbrev pub state_then : List ℕ → Happened → GroupState → GroupState
state_then g (happened.In n v ms) st = empty_state
state_then g (happened.Base n v h old len state) st = if bytes_eq h g then state else st
state_then g (happened.Put n v h i e) st = if bytes_eq h g then after st v i e else st
state_then g _ st = st

-- after these
abbrev pub state_along : List ℕ → List Happened → GroupState → GroupState
state_along g [] st = st
state_along g (r ∷ rs) st = state_along g rs (state_then g r st)

-- t has these records more than s, and its groups, in name order as before, have the states that these make of those in s
pub record Along (s t : Core) : Type 0 where
  pub records : List Happened
  pub more : t.records ≡ s.records ++ records
  pub order : InNameOrder s.groups → InNameOrder t.groups
  pub states : InNameOrder s.groups → (g : List ℕ) → state_of t g ≡ state_along g records (state_of s g)

-- ---- what is handed, with the states

-- a record of what a client was handed, filled or was told, and where it heard an entry the state of the group after that
pub record Logged : Type 0 where
  pub what : Happened
  pub after : GroupState

abbrev pub logged_if : Happened → (List ℕ → GroupState) → List Logged
logged_if (happened.Heard p v g i e members value) states = record { what = happened.Heard p v g i e members value; after = states g } ∷ []
logged_if (happened.Cast p proto phase vote value message) states = record { what = happened.Cast p proto phase vote value message; after = empty_state } ∷ []
logged_if (happened.Told p r why) states = record { what = happened.Told p r why; after = empty_state } ∷ []
logged_if (happened.Noted node client v i told) states = record { what = happened.Noted node client v i told; after = empty_state } ∷ []
logged_if _ states = []

-- what these records tell that was handed, where the groups had these states before them
abbrev pub logged_in : List Happened → (List ℕ → GroupState) → List Logged
logged_in [] states = []
logged_in (r ∷ rs) states = logged_if r states ++ logged_in rs (λ g. state_then g r (states g))
