-- The entries that a list lacks of a longer one.
use Rattle.std.specs.Prelude.{ℕ, Bool, ◌+◌, ◌-◌, List, [], ◌∷◌, drop, true, false, Option, Some, None, nat_le, nat_lt}
use Rattle.rsct_packet.specs.declared.ids.ViewId.{ViewId}
use Rattle.proposal_core.specs.declared.entry.Entry.{Entry}
use Rattle.proposal_core.specs.GroupView.{GroupView}
use Rattle.proposal_core.specs.Lists.{entry_fits, with_entry}
use Rattle.view_state.specs.declared.install.Part.{Part}
use Rattle.view_state.specs.Parts.{part_len}

-- do these fit at the end of the list, one after another?
unfoldable pub all_fit : ViewId → GroupView → List Entry → Bool
all_fit v l [] = true
all_fit v l (e ∷ es) = elim (entry_fits l e) [ false ↦ false | true ↦ all_fit v (with_entry l v e) es ]

unfoldable pub lacking_if : Bool → List Entry → Option (List Entry)
lacking_if false es = None
lacking_if true es = Some es

-- what a list of a view lacks up to the length of a part; none where an entry is missing or does not fit
unfoldable pub lacking_of : ViewId → GroupView → Part → Option (List Entry)
lacking_of v l p =
    elim (nat_le (part_len p) l.len) [
      | true ↦ Some []
      | false ↦ elim (nat_lt l.len p.start) [
        | true ↦ None
        | false ↦ let es : List Entry = drop (l.len - p.start) p.entries in lacking_if (all_fit v l es) es
      ]
    ]

-- opens each word of this file, for a computation
unfoldable pub cut_opens : Unit {0}
unfolding all_fit lacking_if lacking_of
cut_opens = tt
