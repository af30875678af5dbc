-- The first line of each view, and the view that each node is in, as they are kept.
use Rattle.std.specs.Prelude.{ℕ, ◌≡◌, Bool, ◌&&◌, cond, nat_eq, List, Option, Some, None}
use Rattle.std.specs.Map.{lookup}
use Rattle.rsct_packet.specs.declared.ids.Member.{Member}
use Rattle.rsct_packet.specs.declared.ids.ViewId.{ViewId}
use Rattle.rsct_packet.specs.Ids.{same_member}
use Rattle.record_lines.specs.declared.line.Line.{Line}
use Rattle.record_lines.specs.declared.line.Line.TheVariants as line
use Rattle.run_audit.specs.declared.views.FirstIn.{FirstIn}
use Rattle.run_audit.specs.declared.keys.ViewKey.{ViewKey}
use Rattle.run_audit.specs.Keys.{view_key, same_view_key}
use Rattle.run_audit.specs.Kept.{first_given}
use Rattle.run_audit.specs.Past.{view_of}
use Rattle.run_audit.specs.Table.{all_same, if_some, is_above, is_own}

abbrev pub entered_at : ViewKey → Line → ℕ → Option FirstIn
entered_at k (line.In n v ms) number = cond (same_view_key (view_key v) k) (Some (record { node = n; number = number; members = ms })) None
entered_at k _ number = None

-- the entries are the first lines of views
abbrev pub AreViews : List Line → List (ViewKey × FirstIn) → Type 0
AreViews ls es = (k : ViewKey) → lookup (same_view_key k) es ≡ first_given (entered_at k) ls

unfoldable pub members_in : Option FirstIn → Option (List Member)
members_in None = None
members_in (Some f) = Some f.members

unfoldable pub node_in : Option FirstIn → Option ℕ
node_in None = None
node_in (Some f) = Some f.node

unfoldable pub line_of : Option FirstIn → Option ℕ
line_of None = None
line_of (Some f) = Some f.number

-- ---- where nodes are

-- a node that has started again is in no view
unfoldable pub view_in : Option (Option ViewId) → Option ViewId
view_in None = None
view_in (Some o) = o

-- the entries are the views that nodes are in
abbrev pub AreStays : List Line → List (ℕ × Option ViewId) → Type 0
AreStays ls es = (n : ℕ) → view_in (lookup (nat_eq n) es) ≡ view_of n ls

-- a line keeps the rule on nodes that enter views, where the node was in this view, its last start has this incarnation, and the
-- view's first line these members
unfoldable pub in_keeps : Option ViewId → Option ℕ → Option (List Member) → ℕ → ViewId → List Member → Bool
in_keeps old inc first n v ms = is_above old v && (is_own inc n ms && if_some first (all_same same_member ms))
