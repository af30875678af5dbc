-- The list that a part is of: how long it is, and its entries.
use Rattle.std.specs.Prelude.{ℕ, ◌+◌, ◌-◌, Option, None, length, nat_lt, slice_get, if◌then◌else◌}
use Rattle.proposal_core.specs.declared.entry.Entry.{Entry}
use Rattle.view_state.specs.declared.install.Part.{Part}

abbrev pub part_len : Part → ℕ
part_len p = p.start + length p.entries

-- the entry of a list at a place; none below the start, and none from the length on
unfoldable pub entry_of : Part → ℕ → Option Entry
entry_of p place = if nat_lt place p.start then None else slice_get p.entries (place - p.start)
