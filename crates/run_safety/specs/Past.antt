-- What the records of a run say of the past. A history is a run with the latest event first, and in each event the
-- latest record first.
use Rattle.std.specs.Prelude.{ℕ, ◌+◌, Bool, ◌&&◌, ◌==◌, List, [], ◌∷◌, ◌++◌, reverse, map, flat_map, take, Option, Some, None, if◌then◌else◌}
use Rattle.std.specs.Str.{bytes_eq}
use Rattle.rsct_packet.specs.declared.ids.ViewId.{ViewId}
use Rattle.rsct_packet.specs.Ids.{same_view}
use Rattle.proposal_core.specs.declared.entry.Entry.{Entry}
use Rattle.proposal_core.specs.declared.group_state.GroupState.{GroupState}
use Rattle.proposal_core.specs.Fold.{empty_state, after}
use Rattle.node_state.specs.declared.happened.Happened.{Happened}
use Rattle.node_state.specs.declared.happened.Happened.TheVariants.{Up, Down, In, Base, Put}
use Rattle.world_model.specs.Run.{Happening, Run}

abbrev pub History : Type 0
History = List Happening

abbrev pub turned : Happening → Happening
turned h = record h { records = reverse h.records }

abbrev pub history_of : Run → History
history_of run = reverse (map turned run)

-- all records, the latest first
abbrev pub records_of : History → List Happened
records_of h = flat_map (λ e. e.records) h

-- what holds of each record: of the records of its event before it, of the events before, and of itself
abbrev pub Within : (List Happened → History → Happened → Type 0) → List Happened → History → Type 0
Within P [] before = Unit {0}
Within P (r ∷ now) before = P now before r × Within P now before

abbrev pub EachRecord : (List Happened → History → Happened → Type 0) → History → Type 0
EachRecord P [] = Unit {0}
EachRecord P (e ∷ before) = Within P e.records before × EachRecord P before

-- what holds of each event that is over, with the events before
abbrev pub EachEvent : (Happening → History → Type 0) → History → Type 0
EachEvent P [] = Unit {0}
EachEvent P (e ∷ before) = P e before × EachEvent P before

-- the records before one, the latest first
abbrev pub earlier : List Happened → History → List Happened
earlier now before = now ++ records_of before

-- the view that the node is in, where it has entered one since it started
abbrev pub place_after : ℕ → Happened → Option ViewId → Option ViewId
place_after n (Up m j) old = if m == n then None else old
place_after n (Down m) old = if m == n then None else old
place_after n (In m v ms) old = if m == n then Some v else old
place_after n _ old = old

abbrev pub view_now : ℕ → List Happened → Option ViewId
view_now n [] = None
view_now n (r ∷ rs) = place_after n r (view_now n rs)

-- the incarnation in which the node was started last
abbrev pub inc_after : ℕ → Happened → ℕ → ℕ
inc_after n (Up m j) old = if m == n then j else old
inc_after n _ old = old

abbrev pub inc_now : ℕ → List Happened → ℕ
inc_now n [] = 0
inc_now n (r ∷ rs) = inc_after n r (inc_now n rs)

-- this node, view and group
abbrev pub is_list : ℕ → ViewId → List ℕ → ℕ → ViewId → List ℕ → Bool
is_list n v g m u h = m == n && (same_view u v && bytes_eq h g)

-- the entries that the node put into the view's list of the group, in order
abbrev pub puts_after : ℕ → ViewId → List ℕ → Happened → List Entry → List Entry
puts_after n v g (Put m u h i e) old = if is_list n v g m u h then old ++ e ∷ [] else old
puts_after n v g _ old = old

abbrev pub puts_of : ℕ → ViewId → List ℕ → List Happened → List Entry
puts_of n v g [] = []
puts_of n v g (r ∷ rs) = puts_after n v g r (puts_of n v g rs)

-- the base of the group in the view, as the node recorded it: the empty state where there is none
abbrev pub base_after : ℕ → ViewId → List ℕ → Happened → GroupState → GroupState
base_after n v g (Base m u h old len state) none = if is_list n v g m u h then state else none
base_after n v g _ old = old

abbrev pub base_of : ℕ → ViewId → List ℕ → List Happened → GroupState
base_of n v g [] = empty_state
base_of n v g (r ∷ rs) = base_after n v g r (base_of n v g rs)

-- the state after entries of a view, which stand from a place on
abbrev pub fold_from : ViewId → GroupState → ℕ → List Entry → GroupState
fold_from v s i [] = s
fold_from v s i (e ∷ es) = fold_from v (after s v i e) (i + 1) es

-- the state of the group after the first entries of the node's list
abbrev pub state_at : ℕ → ViewId → List ℕ → ℕ → List Happened → GroupState
state_at n v g i rs = fold_from v (base_of n v g rs) 0 (take i (puts_of n v g rs))

-- after all of them
abbrev pub state_now : ℕ → ViewId → List ℕ → List Happened → GroupState
state_now n v g rs = fold_from v (base_of n v g rs) 0 (puts_of n v g rs)
