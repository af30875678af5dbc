-- What is kept of nodes that pass from one view into another, and of the groups that nodes put into.
use Rattle.std.specs.Prelude.{ℕ, ◌≡◌, Bool, true, false, ◌==◌, ◌&&◌, List, [], ◌∷◌, ◌++◌, map, Option, Some, None}
use Rattle.std.specs.List.{list_all}
use Rattle.std.specs.Map.{lookup}
use Rattle.rsct_packet.specs.declared.ids.ViewId.{ViewId}
use Rattle.rsct_packet.specs.Ids.{same_view}
use Rattle.record_lines.specs.declared.line.Line.{Line}
use Rattle.record_lines.specs.declared.line.Line.TheVariants as line
use Rattle.run_audit.specs.declared.broken.Fault.{Fault}
use Rattle.run_audit.specs.declared.broken.Rule.TheVariants as rule
use Rattle.run_audit.specs.declared.keys.PassKey.{PassKey}
use Rattle.run_audit.specs.declared.keys.StayKey.{StayKey}
use Rattle.run_audit.specs.declared.leavers.Entrant.{Entrant}
use Rattle.run_audit.specs.declared.lists.LastPut.{LastPut}
use Rattle.run_audit.specs.declared.lists.RowKey.{RowKey}
use Rattle.run_audit.specs.Based.{groups_in}
use Rattle.run_audit.specs.Keys.{view_at, same_pass_key, same_stay_key}
use Rattle.run_audit.specs.Lists.{is_row_key}
use Rattle.run_audit.specs.Table.{Leaver, leavers}

abbrev pub leaver_of : Entrant → Leaver
leaver_of x = record { node = x.node; no = x.number }

unfoldable pub entrants_in : Option (List Entrant) → List Entrant
entrants_in None = []
entrants_in (Some xs) = xs

-- one more, where the key is this one
abbrev pub with_entrant : Bool → Entrant → List Entrant → List Entrant
with_entrant true x xs = xs ++ x ∷ []
with_entrant false x xs = xs

-- the entries are those who passed
abbrev pub AreLeavers : List Line → List (PassKey × List Entrant) → Type 0
AreLeavers ls es = (q : PassKey) → map leaver_of (entrants_in (lookup (same_pass_key q) es)) ≡ leavers (view_at q.to) (view_at q.from) ls

-- the fault, where this line shows it
abbrev pub fault_with : ℕ → Fault
fault_with k = record { rule = rule.Pass; with_line = Some k }

-- the groups of the view that the node put into, at a first place
unfoldable pub own_groups : ℕ → ViewId → List Line → List (List ℕ)
own_groups n u [] = []
own_groups n u (line.Put m v g i e ∷ ls) = elim ((m == n && same_view v u) && i == 0) [ true ↦ own_groups n u ls ++ g ∷ [] | false ↦ own_groups n u ls ]
own_groups n u (l ∷ ls) = own_groups n u ls

-- the entries are the groups that nodes put into
abbrev pub ArePutGroups : List Line → List (StayKey × List (List ℕ)) → Type 0
ArePutGroups ls es = (q : StayKey) → groups_in (lookup (same_stay_key q) es) ≡ own_groups q.node (view_at q.view) ls

-- as many were put
unfoldable pub same_last : Option LastPut → Option LastPut → Bool
same_last None None = true
same_last None (Some y) = false
same_last (Some x) None = false
same_last (Some x) (Some y) = x.place == y.place

-- both nodes put as many into each of these groups
unfoldable pub same_counts : List (RowKey × LastPut) → ℕ → ℕ → ViewId → List (List ℕ) → Bool
same_counts es n m u gs =
    list_all (λ g. same_last (lookup (is_row_key (record { node = n; view = u; group = g })) es) (lookup (is_row_key (record { node = m; view = u; group = g })) es)) gs
