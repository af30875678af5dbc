-- The lists of nodes are fronts of the view's list, while places and entries are kept.
use Rattle.std.specs.Prelude.{ℕ, ◌≡◌, Bool, true, false, ◌&&◌, List, [], ◌∷◌, length}
use Rattle.rsct_packet.specs.declared.ids.ViewId.{ViewId}
use Rattle.proposal_core.specs.declared.entry.Entry.{Entry}
use Rattle.record_lines.specs.declared.line.Line.{Line}
use Rattle.run_audit.specs.declared.broken.Rule.TheVariants as rule
use Rattle.run_audit.specs.Kept.{Keep}
use Rattle.run_audit.specs.Past.{puts_of, list_of}
use Rattle.run_audit.specs.Table.{same_entry, all_same}

-- entry by entry the same as far as the first goes
abbrev pub is_front : List Entry → List Entry → Bool
is_front [] ys = true
is_front (x ∷ xs) [] = false
is_front (x ∷ xs) (y ∷ ys) = same_entry x y && is_front xs ys

-- a node's list is a front of the view's list of the group
abbrev pub AreFronts : Type 0
AreFronts = (ls : List Line) → Keep rule.Place ls → Keep rule.Entry ls → (n : ℕ) (v : ViewId) (g : List ℕ) → is_front (puts_of n v g ls) (list_of v g ls) ≡ true

-- two nodes' lists are the same where they are as long
abbrev pub LengthsTell : Type 0
LengthsTell =
    (ls : List Line) → Keep rule.Place ls → Keep rule.Entry ls → (n m : ℕ) (v : ViewId) (g : List ℕ) → length (puts_of n v g ls) ≡ length (puts_of m v g ls) → all_same same_entry (puts_of n v g ls) (puts_of m v g ls) ≡ true
