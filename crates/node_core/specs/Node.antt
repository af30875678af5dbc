-- A node as its callers see it.
use Rattle.std.specs.Prelude.{Bool, List}
use Rattle.session_clients.specs.Clients.{SessionsView}
use Rattle.node_state.specs.declared.state.Core.{Core}

-- its state, its clients in the order of their sessions, and whether it has halted
pub record NodeView (C : Type 0) : Type 0 where
  pub core : Core
  pub clients : List C
  pub halted : Bool

-- its sessions with their clients
abbrev pub sessions_in : {C : Type 0} → NodeView C → SessionsView C
sessions_in n = record { state = n.core.sessions; clients = n.clients }
