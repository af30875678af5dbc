-- Names with the nodes that lead their groups, in the order in which they came.
use Rattle.std.specs.Prelude.{ℕ, Bool, true, false, not, ◌&&◌, List, [], ◌∷◌, ◌++◌, map, length, Option, Some, None, nat_le, Vec, if◌then◌else◌}
use Rattle.std.specs.List.{list_any}
use Rattle.std.specs.Str.{bytes_eq}
use Rattle.std.specs.declared.alloc.Global.{Global}
use Rattle.name_server.specs.declared.names.Leader.{Leader}

abbrev pub max_names : ℕ
max_names = 64

-- the entries of the map, names as bytes
abbrev pub table_of : List (Vec ℕ Global × ℕ) → List Leader
table_of es = map (λ e. record { group = e.0.items; node = e.1 }) es

abbrev pub node_of : List ℕ → List Leader → Option ℕ
node_of g [] = None
node_of g (x ∷ xs) = if bytes_eq g x.group then Some x.node else node_of g xs

-- each name differs from those after it
abbrev pub names_differ : List Leader → Bool
names_differ [] = true
names_differ (x ∷ xs) = not (list_any (λ y. bytes_eq y.group x.group) xs) && names_differ xs

abbrev pub named : List ℕ → ℕ → List Leader → List Leader
named g asker table = table ++ record { group = g; node = asker } ∷ []

-- a new name where 64 or more are kept
abbrev pub is_full_for : List ℕ → List Leader → Bool
is_full_for g table = elim (node_of g table) [ None ↦ nat_le max_names (length table) | Some n ↦ false ]

abbrev pub answer_at : ℕ → Bool → Option ℕ → Option ℕ
answer_at asker full (Some n) = Some n
answer_at asker true None = None
answer_at asker false None = Some asker

-- the node of a name: a new name's asker, and none where it is refused
abbrev pub looked_up : List ℕ → ℕ → List Leader → Option ℕ
looked_up g asker table = answer_at asker (nat_le max_names (length table)) (node_of g table)

abbrev pub table_at : List ℕ → ℕ → List Leader → Bool → Option ℕ → List Leader
table_at g asker table full (Some n) = table
table_at g asker table true None = table
table_at g asker table false None = named g asker table

-- the table after a look-up: a new name is kept with its asker
abbrev pub lookup : List ℕ → ℕ → List Leader → List Leader
lookup g asker table = table_at g asker table (nat_le max_names (length table)) (node_of g table)
