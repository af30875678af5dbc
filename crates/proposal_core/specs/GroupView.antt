-- What contracts see of a group's list.
use Rattle.std.specs.Prelude.{ℕ, List, []}
use Rattle.proposal_core.specs.declared.entry.Entry.{Entry}
use Rattle.proposal_core.specs.declared.group_state.GroupState.{GroupState}

-- the entries from start on, and the state at the end; len and bytes count all entries
pub record GroupView : Type 0 where
  pub start : ℕ
  pub len : ℕ
  pub bytes : ℕ
  pub state : GroupState
  pub entries : List Entry

abbrev pub new_list : GroupState → GroupView
new_list base = record { start = 0; len = 0; bytes = 0; state = base; entries = [] }
