-- Groups' lists: what they hold, and what entries make of them.
use Rattle.std.specs.Prelude.{ℕ, Bool, ◌&&◌, ◌||◌, ◌+◌, ◌-◌, ◌++◌, [], ◌∷◌, drop, max, Option, Some, None, nat_le, nat_lt, slice_get, if◌then◌else◌}
use Rattle.rsct_packet.specs.declared.ids.ViewId.{ViewId}
use Rattle.rsct_packet.specs.Ids.{last_u32}
use Rattle.proposal_core.specs.declared.entry.Entry.{Entry}
use Rattle.proposal_core.specs.declared.group_state.GroupState.{GroupState}
use Rattle.proposal_core.specs.Fold.{empty_state, fits, after}
use Rattle.proposal_core.specs.GroupView.{GroupView, new_list}
use Rattle.proposal_core.specs.Sizes.{entry_len}

-- nothing begins in a list of so many places or bytes
abbrev pub max_places : ℕ
max_places = 4096

abbrev pub max_bytes : ℕ
max_bytes = 262144

-- a list that a node does not hold is empty
abbrev pub list_or_new : Option GroupView → GroupView
list_or_new None = new_list empty_state
list_or_new (Some l) = l

abbrev pub state_in : Option GroupView → GroupState
state_in l = (list_or_new l).state

abbrev pub len_in : Option GroupView → ℕ
len_in l = (list_or_new l).len

abbrev pub bytes_in : Option GroupView → ℕ
bytes_in l = (list_or_new l).bytes

unfoldable pub is_at_limit : GroupView → Bool
is_at_limit l = nat_le max_places l.len || nat_le max_bytes l.bytes

-- places and bytes are counted in 32 bits
unfoldable pub has_room : GroupView → Entry → Bool
has_room l e = nat_lt l.len last_u32 && nat_le (l.bytes + entry_len e) last_u32

-- an entry fits at the end of a list
unfoldable pub entry_fits : GroupView → Entry → Bool
entry_fits l e = fits l.state e && has_room l e

-- with an entry at the end
unfoldable pub with_entry : GroupView → ViewId → Entry → GroupView
with_entry l v e =
    record { start = l.start; len = l.len + 1; bytes = l.bytes + entry_len e; state = after l.state v l.len e; entries = l.entries ++ e ∷ [] }

-- without the entries below a place; only a place up to the length is taken
unfoldable pub forgotten : GroupView → ℕ → GroupView
forgotten l place = if nat_le place l.len then record l { start = max l.start place; entries = drop (place - l.start) l.entries } else l

-- the entry at a place: none below the start, and none from the length on
unfoldable pub entry_at : GroupView → ℕ → Option Entry
entry_at l place = if nat_lt place l.start then None else slice_get l.entries (place - l.start)

-- opens each word of this file, for a computation
unfoldable pub lists_opens : Unit {0}
unfolding is_at_limit has_room entry_fits with_entry forgotten entry_at
lists_opens = tt
