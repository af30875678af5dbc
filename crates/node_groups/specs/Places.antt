-- Where the row of a group stands among rows in name order.
use Rattle.std.specs.Prelude.{ℕ, Bool, true, false, ◌==◌, ◌||◌, List, [], ◌∷◌, map, filter, Option, Some, None}
use Rattle.std.specs.Str.{bytes_eq}
use Rattle.rsct_packet.specs.declared.ids.ProviderId.{ProviderId}
use Rattle.rsct_packet.specs.Providers.{same_provider}
use Rattle.rsct_packet.specs.Text.{name_lt}
use Rattle.node_state.specs.declared.group.Acked.{Acked}
use Rattle.node_state.specs.declared.group.Decision.{Decision}
use Rattle.node_state.specs.declared.group.GroupRow.{GroupRow}
use Rattle.node_state.specs.declared.group.JoinAttrs.{JoinAttrs}
use Rattle.node_state.specs.declared.group.Led.{Led}
use Rattle.node_state.specs.declared.state.Core.{Core}
use Rattle.node_state.specs.State.{nothing_led, new_row, rows_with, leads_in}

-- it has the name, or comes after it
abbrev pub stops_at : List ℕ → GroupRow → Bool
stops_at g row = bytes_eq row.name g || name_lt g row.name

abbrev pub is_row_of : List ℕ → Option GroupRow → Bool
is_row_of g None = false
is_row_of g (Some row) = bytes_eq row.name g

-- with an empty row where the group has none
unfoldable pub row_opened : List ℕ → List GroupRow → List GroupRow
row_opened g rows = rows_with g (λ row. row) rows

-- the row that a change of the group's row is made of: an empty one where a name that comes after it is met before it
unfoldable pub row_reached : List ℕ → List GroupRow → GroupRow
row_reached g [] = new_row g
row_reached g (row ∷ rows) =
    elim (bytes_eq row.name g) [ true ↦ row | false ↦ elim (name_lt g row.name) [ true ↦ new_row g | false ↦ row_reached g rows ] ]

abbrev pub is_acked_by : ℕ → Acked → Bool
is_acked_by n a = a.node == n

abbrev pub is_decision_on : ProviderId → Decision → Bool
is_decision_on p d = same_provider d.provider p

abbrev pub are_attrs_of : ProviderId → JoinAttrs → Bool
are_attrs_of p j = same_provider j.provider p

-- nothing is led of a group that has no row
abbrev pub led_or_nothing : Option Led → Led
led_or_nothing None = nothing_led
led_or_nothing (Some l) = l

-- the names of the groups of these rows that the node leads
abbrev pub names_led : Core → List GroupRow → List (List ℕ)
names_led s rows = map (λ (row : GroupRow). row.name) (filter (leads_in s) rows)
