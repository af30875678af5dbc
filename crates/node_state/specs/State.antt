-- A node at work: words on its state.
use Rattle.std.specs.Prelude.{◌≡◌, ℕ, Bool, true, false, ◌==◌, List, [], ◌∷◌, ◌++◌, map, filter, find, max, min, Option, Some, None, is_some}
use Rattle.std.specs.List.{fold}
use Rattle.std.specs.Str.{bytes_eq}
use Rattle.rsct_packet.specs.declared.ids.ProviderId.{ProviderId}
use Rattle.rsct_packet.specs.declared.ids.Member.{Member}
use Rattle.rsct_packet.specs.Providers.{same_provider}
use Rattle.rsct_packet.specs.Text.{name_lt}
use Rattle.proposal_core.specs.declared.entry.Entry.{Entry}
use Rattle.proposal_core.specs.declared.group_state.GroupState.{GroupState}
use Rattle.proposal_core.specs.GroupView.{GroupView}
use Rattle.proposal_core.specs.Lists.{list_or_new, len_in, entry_fits, forgotten}
use Rattle.batch_rules.specs.Waiting.{nothing_waits}
use Rattle.session_state.specs.declared.state.SessionState.{SessionState}
use Rattle.view_state.specs.Views.{is_frozen, is_coordinator, others_of}
use Rattle.node_state.specs.declared.config.Mode.{Mode}
use Rattle.node_state.specs.declared.config.Mode.TheVariants.{Fixed, Asked, Rings}
use Rattle.node_state.specs.declared.group.Acked.{Acked}
use Rattle.node_state.specs.declared.group.Decision.{Decision}
use Rattle.node_state.specs.declared.group.GroupRow.{GroupRow}
use Rattle.node_state.specs.declared.group.Led.{Led}
use Rattle.node_state.specs.declared.happened.Happened.{Happened}
use Rattle.node_state.specs.declared.state.Core.{Core}

abbrev pub nothing_led : Led
nothing_led = record { acked = []; waiting = nothing_waits; join_attrs = []; tally = None; given = []; gone = []; decided = [] }

abbrev pub new_row : List ℕ → GroupRow
new_row g = record { name = g; list = None; leader = None; led = nothing_led }

abbrev pub row_found : List ℕ → Option GroupRow → GroupRow
row_found g None = new_row g
row_found g (Some row) = row

abbrev pub has_name : List ℕ → GroupRow → Bool
has_name g row = bytes_eq row.name g

-- the row of a group, an empty one where there is none
unfoldable pub row_of : Core → List ℕ → GroupRow
row_of s g = row_found g (find (λ row. bytes_eq row.name g) s.groups)

-- the rows with that of the group changed, in name order
unfoldable pub rows_with : List ℕ → (GroupRow → GroupRow) → List GroupRow → List GroupRow
rows_with g change [] = change (new_row g) ∷ []
rows_with g change (row ∷ rows) =
    elim (bytes_eq row.name g) [
      | true ↦ change row ∷ rows
      | false ↦ elim (name_lt g row.name) [ true ↦ change (new_row g) ∷ row ∷ rows | false ↦ row ∷ rows_with g change rows ]
    ]

-- each row comes after the name
abbrev pub AllAfter : List ℕ → List GroupRow → Type 0
AllAfter g [] = Unit {0}
AllAfter g (row ∷ rows) = (name_lt g row.name ≡ true) × AllAfter g rows

abbrev pub InNameOrder : List GroupRow → Type 0
InNameOrder [] = Unit {0}
InNameOrder (row ∷ rows) = AllAfter row.name rows × InNameOrder rows

unfoldable pub with_row : Core → List ℕ → (GroupRow → GroupRow) → Core
with_row s g change = record s { groups = rows_with g change s.groups }

unfoldable pub with_led : Core → List ℕ → (Led → Led) → Core
with_led s g change = with_row s g (λ row. record row { led = change row.led })

unfoldable pub led_of : Core → List ℕ → Led
led_of s g = (row_of s g).led

unfoldable pub list_of : Core → List ℕ → GroupView
list_of s g = list_or_new (row_of s g).list

unfoldable pub state_of : Core → List ℕ → GroupState
state_of s g = (list_of s g).state

unfoldable pub len_of : Core → List ℕ → ℕ
len_of s g = (list_of s g).len

-- does it hold a list of the group?
unfoldable pub holds : Core → List ℕ → Bool
holds s g = is_some (row_of s g).list

unfoldable pub held_rows : Core → List GroupRow
held_rows s = filter (λ row. is_some row.list) s.groups

unfoldable pub fits_at_end : Core → List ℕ → Entry → Bool
fits_at_end s g e = entry_fits (list_of s g) e

abbrev pub list_forgotten : ℕ → Option GroupView → Option GroupView
list_forgotten n None = None
list_forgotten n (Some l) = Some (forgotten l n)

-- forgets below a place that is at most the length
unfoldable pub forget_below : Core → List ℕ → ℕ → Core
forget_below s g n = with_row s g (λ row. record row { list = list_forgotten n row.list })

unfoldable pub frozen : Core → Bool
frozen s = is_frozen s.views

unfoldable pub coordinates : Core → Bool
coordinates s = is_coordinator s.views

abbrev pub leader_by : Mode → ℕ → Option ℕ → Option ℕ
leader_by Fixed coord known = Some coord
leader_by Asked coord known = known
leader_by Rings coord known = known

-- in mode fixed the coordinator leads every group
unfoldable pub leader_in : Core → GroupRow → Option ℕ
leader_in s row = leader_by s.config.mode s.views.view.coord row.leader

unfoldable pub leader_of : Core → List ℕ → Option ℕ
leader_of s g = leader_in s (row_of s g)

abbrev pub is_this : ℕ → Option ℕ → Bool
is_this n None = false
is_this n (Some m) = m == n

unfoldable pub leads_in : Core → GroupRow → Bool
leads_in s row = is_this s.views.me (leader_in s row)

unfoldable pub leads : Core → List ℕ → Bool
leads s g = leads_in s (row_of s g)

-- the names of the groups that the node leads, in order
unfoldable pub led_groups : Core → List (List ℕ)
led_groups s = map (λ row. row.name) (filter (leads_in s) s.groups)

-- the other members, ascending
unfoldable pub others : Core → List ℕ
others s = others_of s.views.me s.views.members

unfoldable pub acked_from : ℕ → List Acked → ℕ
acked_from n [] = 0
acked_from n (a ∷ rest) = elim (a.node == n) [ true ↦ a.len | false ↦ acked_from n rest ]

-- the leader's own acknowledged length is its list's length
unfoldable pub acked_by : Core → GroupRow → ℕ → ℕ
acked_by s row n = elim (n == s.views.me) [ true ↦ len_in row.list | false ↦ acked_from n row.led.acked ]

-- the least length that all members acknowledged
unfoldable pub least_acked : Core → List ℕ → ℕ
least_acked s g =
    let row : GroupRow = row_of s g in
    fold (λ least (m : Member). min least (acked_by s row m.node)) (len_in row.list) s.views.members

-- with a member's length raised to this one
unfoldable pub acked_raised : ℕ → ℕ → List Acked → List Acked
acked_raised n len [] = record { node = n; len = len } ∷ []
acked_raised n len (a ∷ rest) =
    elim (a.node == n) [ true ↦ record { node = n; len = max a.len len } ∷ rest | false ↦ a ∷ acked_raised n len rest ]

unfoldable pub decision_of : Led → ProviderId → Option Decision
decision_of l p = find (λ d. same_provider d.provider p) l.decided

-- the decision in place of the last one on its requester
unfoldable pub decisions_with : Decision → List Decision → List Decision
decisions_with d [] = d ∷ []
decisions_with d (x ∷ xs) = elim (same_provider x.provider d.provider) [ true ↦ d ∷ xs | false ↦ x ∷ decisions_with d xs ]

unfoldable pub recorded : Core → Happened → Core
recorded s r = record s { records = s.records ++ r ∷ [] }

unfoldable pub recorded_all : Core → List Happened → Core
recorded_all s rs = record s { records = s.records ++ rs }

unfoldable pub with_sessions : Core → SessionState → Core
with_sessions s t = record s { sessions = t }

-- the leader of the group is known
unfoldable pub set_leader : Core → List ℕ → ℕ → Core
set_leader s g n = with_row s g (λ row. record row { leader = Some n })

-- opens each word of this file, for a computation
unfoldable pub state_opens : Unit {0}
unfolding row_of rows_with with_row with_led led_of list_of state_of len_of holds held_rows fits_at_end forget_below frozen coordinates leader_in leader_of leads_in leads led_groups others acked_from acked_by least_acked acked_raised decision_of decisions_with recorded recorded_all with_sessions set_leader
state_opens = tt
