-- What is kept of bases: which groups each node's base lines of a view name.
use Rattle.std.specs.Prelude.{ℕ, ◌≡◌, ◌++◌, Bool, true, List, [], ◌∷◌, Option, Some, None, is_some, if◌then◌else◌}
use Rattle.std.specs.List.{list_all}
use Rattle.std.specs.Map.{lookup}
use Rattle.std.specs.Option.{option_map}
use Rattle.rsct_packet.specs.declared.ids.ViewId.{ViewId}
use Rattle.record_lines.specs.declared.line.Line.{Line}
use Rattle.run_audit.specs.declared.based.Based.{Based}
use Rattle.run_audit.specs.declared.keys.StayKey.{StayKey}
use Rattle.run_audit.specs.declared.lists.ListKey.{ListKey}
use Rattle.run_audit.specs.declared.lists.RowKey.{RowKey}
use Rattle.run_audit.specs.Keys.{view_at, same_stay_key}
use Rattle.run_audit.specs.Lists.{RowAt, is_list_key, is_row_key}
use Rattle.run_audit.specs.Past.{first_no}
use Rattle.run_audit.specs.Table.{based_groups, first_node, is_base_of, is_own_base, same_groups}

unfoldable pub groups_in : Option (List (List ℕ)) → List (List ℕ)
groups_in None = []
groups_in (Some gs) = gs

-- a group more, where the key is this one
abbrev pub with_group : Bool → List ℕ → List (List ℕ) → List (List ℕ)
with_group t g gs = if t then gs ++ g ∷ [] else gs

-- the entries are the first base lines of nodes
abbrev pub AreOwnBases : List Line → List (RowKey × ℕ) → Type 0
AreOwnBases ls es = (r : RowAt) → lookup (is_row_key r) es ≡ first_no (is_own_base r.node r.view r.group) ls

-- the entries are the groups that nodes' base lines name, in another order
abbrev pub AreGroups : List Line → List (StayKey × List (List ℕ)) → Type 0
AreGroups ls es = (q : StayKey) (t : List ℕ → Bool) → list_all t (groups_in (lookup (same_stay_key q) es)) ≡ list_all t (based_groups q.node (view_at q.view) ls)

-- a list of a group in a view
pub record ListAt : Type 0 where
  pub view : ViewId
  pub group : List ℕ

-- the entries are the first base lines of lists
abbrev pub AreFirstBases : List Line → List (ListKey × ℕ) → Type 0
AreFirstBases ls es = (q : ListAt) → lookup (is_list_key q.view q.group) es ≡ first_no (is_base_of q.view q.group) ls

pub record AreBased (ls : List Line) (b : Based) : Type 0 where
  pub own : AreOwnBases ls b.own
  pub groups : AreGroups ls b.groups
  pub first : AreFirstBases ls b.first

-- the node has a base line of each of these groups
unfoldable pub has_bases : List (RowKey × ℕ) → ℕ → ViewId → List (List ℕ) → Bool
has_bases es n u gs = list_all (λ g. is_some (lookup (is_row_key (record { node = n; view = u; group = g })) es)) gs

-- the view, with the node that entered it first
unfoldable pub entered_first : Option ViewId → List Line → Option (ViewId × ℕ)
entered_first None ls = None
entered_first (Some u) ls = option_map (λ m. (u, m)) (first_node u ls)

-- the base lines of the node name the same groups of that view as those of the other one
unfoldable pub agree_in : ℕ → Option (ViewId × ℕ) → List Line → Bool
agree_in n None ls = true
agree_in n (Some x) ls = same_groups (based_groups n x.0 ls) (based_groups x.1 x.0 ls)
