-- What is kept of the views that nodes entered: in each incarnation, in order.
use Rattle.std.specs.Prelude.{ℕ, ◌≡◌, Bool, true, false, ◌==◌, ◌&&◌, List, [], ◌∷◌, ◌++◌, find, reverse, Option, Some, None}
use Rattle.std.specs.Map.{lookup}
use Rattle.rsct_packet.specs.declared.ids.ViewId.{ViewId}
use Rattle.rsct_packet.specs.Ids.{view_lt}
use Rattle.record_lines.specs.declared.line.Line.{Line}
use Rattle.record_lines.specs.declared.line.Line.TheVariants as line
use Rattle.audit_states.specs.declared.comings.IncKey.{IncKey}
use Rattle.run_audit.specs.Past.{inc_in}

abbrev pub same_inc_key : IncKey → IncKey → Bool
same_inc_key a b = (a.node == b.node) && (a.inc == b.inc)

-- the views that are kept, or none
unfoldable pub views_in : Option (List ViewId) → List ViewId
views_in None = []
views_in (Some us) = us

-- one more, where the key is this one
abbrev pub with_view : Bool → ViewId → List ViewId → List ViewId
with_view true u us = us ++ u ∷ []
with_view false u us = us

-- the views that the node entered in this incarnation
unfoldable pub entered_in : ℕ → ℕ → List Line → List ViewId
entered_in m j [] = []
entered_in m j (line.In n u ms ∷ ls) = with_view (n == m && inc_in m ms == j) u (entered_in m j ls)
entered_in m j (l ∷ ls) = entered_in m j ls

-- the entries are the views that nodes entered
abbrev pub AreComings : List Line → List (IncKey × List ViewId) → Type 0
AreComings ls es = (k : IncKey) → views_in (lookup (same_inc_key k) es) ≡ entered_in k.node k.inc ls

-- the last of these views that is less
unfoldable pub last_below : ViewId → List ViewId → Option ViewId
last_below v us = find (λ u. view_lt u v) (reverse us)

-- where the node came from into the view, in this incarnation
unfoldable pub came_from : List (IncKey × List ViewId) → ℕ → ℕ → ViewId → Option ViewId
came_from es n j v = last_below v (views_in (lookup (same_inc_key (record { node = n; inc = j })) es))
