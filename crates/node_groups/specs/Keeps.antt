-- What a change keeps.
use Rattle.std.specs.Prelude.{◌≡◌, ◌≤◌, length}
use Rattle.session_state.specs.Calls.{SameSessions}
use Rattle.node_state.specs.declared.state.Core.{Core}
use Rattle.session_state.specs.Owners.{KeepsOwners}
use Rattle.node_state.specs.Handed.{handed_in, Along}
use Rattle.node_state.specs.State.{InNameOrder}

-- no record is lost, the sessions and their level are the same, and the rows of groups stay in the order of their names
pub record Stays (s t : Core) : Type 0 where
  pub records : length s.records ≤ length t.records
  pub sessions : SameSessions s.sessions t.sessions
  pub order : InNameOrder s.groups → InNameOrder t.groups

-- nothing is handed to a client either, each provider stays its client's, and the states of groups are as the records tell
pub record Keeps (s t : Core) : Type 0 where
  pub records : length s.records ≤ length t.records
  pub sessions : SameSessions s.sessions t.sessions
  pub order : InNameOrder s.groups → InNameOrder t.groups
  pub handed : handed_in t.records ≡ handed_in s.records
  pub owners : KeepsOwners s.sessions t.sessions
  pub along : Along s t
