-- The answers that a coordinator gathers, and the install that is made of them.
use Rattle.std.specs.Prelude.{ℕ, Bool, true, false, not, ◌&&◌, ◌||◌, ◌==◌, List, [], ◌∷◌, map, length, fold, nat_lt, nat_le, Option, Some, None}
use Rattle.std.specs.List.{list_any, list_all}
use Rattle.std.specs.Str.{bytes_eq}
use Rattle.rsct_packet.specs.declared.ids.ViewId.{ViewId}
use Rattle.rsct_packet.specs.declared.ids.Member.{Member}
use Rattle.rsct_packet.specs.declared.mask.Mask.{Mask}
use Rattle.rsct_packet.specs.Ids.{same_view, view_lt}
use Rattle.rsct_packet.specs.Mask.{no_nodes, has_node, with_node, nodes_of}
use Rattle.rsct_packet.specs.Text.{name_lt}
use Rattle.rsct_packet.specs.Search.{place_where, edit_where, insert_before}
use Rattle.view_state.specs.declared.answer.Answer.{Answer}
use Rattle.view_state.specs.declared.exchange.Exchange.{Exchange}
use Rattle.view_state.specs.declared.sides.Kept.{Kept}
use Rattle.view_state.specs.declared.sides.Side.{Side}
use Rattle.view_state.specs.declared.install.Part.{Part}
use Rattle.view_state.specs.declared.install.Source.{Source}
use Rattle.view_state.specs.declared.install.Install.{Install}
use Rattle.view_state.specs.Parts.{part_len}

-- an answer or a source with more parts has no spelling
abbrev pub max_parts : ℕ
max_parts = 255

-- of these, nobody has answered yet
unfoldable pub opened : ViewId → Mask → Exchange
opened v asked = record { view = v; asked = asked; members = []; sides = []; age = 0 }

unfoldable pub has_answered : Exchange → ℕ → Bool
has_answered x n = list_any (λ (m : Member). m.node == n) x.members

-- asked, and has not answered
unfoldable pub may_answer : Exchange → ℕ → Bool
may_answer x n = has_node x.asked n && not (has_answered x n)

-- a node's list of a group
abbrev pub kept_of : ℕ → Part → Kept
kept_of node p = record { node = node; part = p }

-- a list of this length is longer than the kept one, or as long and of a lesser node
abbrev pub is_beaten : Kept → ℕ → ℕ → Bool
is_beaten kept node len = nat_lt (part_len kept.part) len || (part_len kept.part == len && nat_lt node kept.node)

abbrev pub better_of : Kept → Kept → Kept
better_of new kept = elim (is_beaten kept new.node (part_len new.part)) [ true ↦ new | false ↦ kept ]

abbrev pub is_kept_of : List ℕ → Kept → Bool
is_kept_of name kept = bytes_eq kept.part.name name

abbrev pub is_kept_above : List ℕ → Kept → Bool
is_kept_above name kept = name_lt name kept.part.name

abbrev pub with_kept_at : List Kept → Kept → Option ℕ → List Kept
with_kept_at ks new None = insert_before (is_kept_above new.part.name) new ks
with_kept_at ks new (Some i) = edit_where (is_kept_of new.part.name) (better_of new) ks

-- the kept parts in name order, with one more
unfoldable pub with_kept : List Kept → Kept → List Kept
with_kept ks new = with_kept_at ks new (place_where (is_kept_of new.part.name) ks)

unfoldable pub with_parts : ℕ → List Kept → List Part → List Kept
with_parts node ks [] = ks
with_parts node ks (p ∷ ps) = with_parts node (with_kept ks (kept_of node p)) ps

-- the side of an old view, with one more answer
unfoldable pub side_with : Answer → Side → Side
side_with a s = record s { nodes = with_node s.nodes a.node; parts = with_parts a.node s.parts a.parts }

unfoldable pub side_from : Answer → Side
side_from a = record { view = a.view; nodes = with_node no_nodes a.node; parts = map (kept_of a.node) a.parts }

abbrev pub is_side_of : ViewId → Side → Bool
is_side_of v s = same_view s.view v

abbrev pub is_side_above : ViewId → Side → Bool
is_side_above v s = view_lt v s.view

abbrev pub with_side_at : List Side → Answer → Option ℕ → List Side
with_side_at ss a None = insert_before (is_side_above a.view) (side_from a) ss
with_side_at ss a (Some i) = edit_where (is_side_of a.view) (side_with a) ss

-- the sides by view, ascending, with one more answer
unfoldable pub with_side : List Side → Answer → List Side
with_side ss a = with_side_at ss a (place_where (is_side_of a.view) ss)

abbrev pub member_of : Answer → Member
member_of a = record { node = a.node; inc = a.inc }

abbrev pub is_member_above : ℕ → Member → Bool
is_member_above n m = nat_lt n m.node

abbrev pub with_member : List Member → Member → List Member
with_member ms m = insert_before (is_member_above m.node) m ms

unfoldable pub with_answer : Exchange → Answer → Exchange
with_answer x a = record x { members = with_member x.members (member_of a); sides = with_side x.sides a }

-- an answer counts only where it is the first of a node that was asked
unfoldable pub add_answer : Exchange → Answer → Bool → Exchange
add_answer x a false = x
add_answer x a true = with_answer x a

unfoldable pub all_answered : Exchange → Bool
all_answered x = list_all (has_answered x) (nodes_of x.asked)

abbrev pub source_of : Side → Source
source_of s = record { view = s.view; nodes = s.nodes; parts = map (λ (k : Kept). k.part) s.parts }

-- the members are those who answered; for each old view and group the longest list is carried
unfoldable pub install_of : Exchange → Install
install_of x = record { view = x.view; members = x.members; sources = map source_of x.sides }

abbrev pub is_source_spelled : Source → Bool
is_source_spelled s = nat_le (length s.parts) max_parts

-- whether it has a spelling
unfoldable pub is_spelled : Install → Bool
is_spelled i = list_all is_source_spelled i.sources

-- opens each word of this file, for a computation
unfoldable pub answers_open : Unit {0}
unfolding opened has_answered may_answer with_kept with_parts side_with side_from with_side with_answer add_answer all_answered install_of is_spelled
answers_open = tt
