-- What is kept of lists: each node's last put.
use Rattle.std.specs.Prelude.{ℕ, ◌≡◌, ◌+◌, Bool, ◌==◌, ◌&&◌, cond, List, Option, Some, None}
use Rattle.std.specs.Map.{lookup}
use Rattle.std.specs.Str.{bytes_eq}
use Rattle.rsct_packet.specs.declared.ids.ViewId.{ViewId}
use Rattle.record_lines.specs.declared.line.Line.{Line}
use Rattle.record_lines.specs.declared.line.Line.TheVariants as line
use Rattle.run_audit.specs.declared.lists.LastPut.{LastPut}
use Rattle.run_audit.specs.declared.lists.ListKey.{ListKey}
use Rattle.run_audit.specs.declared.lists.RowKey.{RowKey}
use Rattle.run_audit.specs.Keys.{view_key, same_view_key}
use Rattle.run_audit.specs.Kept.{last_given}
use Rattle.run_audit.specs.Past.{is_list}

-- a list of a group in a view, and its key
abbrev pub is_list_key : ViewId → List ℕ → ListKey → Bool
is_list_key v g key = same_view_key (view_key v) key.view && bytes_eq g key.group.items

abbrev pub same_list_key : ListKey → ListKey → Bool
same_list_key a b = same_view_key a.view b.view && bytes_eq a.group.items b.group.items

-- a node's puts into a list
pub record RowAt : Type 0 where
  pub node : ℕ
  pub view : ViewId
  pub group : List ℕ

abbrev pub is_row_key : RowAt → RowKey → Bool
is_row_key r key = (r.node == key.node) && is_list_key r.view r.group key.list

abbrev pub same_row_key : RowKey → RowKey → Bool
same_row_key a b = (a.node == b.node) && same_list_key a.list b.list

abbrev pub last_put_at : RowAt → Line → ℕ → Option LastPut
last_put_at r (line.Put m u h i e) number = cond ((m == r.node) && is_list r.view r.group u h) (Some (record { place = i; number = number })) None
last_put_at r _ number = None

-- the entries are the last puts of nodes
abbrev pub AreRows : List Line → List (RowKey × LastPut) → Type 0
AreRows ls es = (r : RowAt) → lookup (is_row_key r) es ≡ last_given (last_put_at r) ls

unfoldable pub row_line : Option LastPut → Option ℕ
row_line None = None
row_line (Some x) = Some x.number

-- the place is the next one
unfoldable pub is_next_place : Option LastPut → ℕ → Bool
is_next_place None i = i == 0
is_next_place (Some x) i = i == x.place + 1
