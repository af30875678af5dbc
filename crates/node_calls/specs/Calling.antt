-- What a call leaves of the clients of a node.
use Rattle.std.specs.Prelude.{Bool, true, false, List, [], ◌∷◌, ◌++◌, Result, Ok, Err}
use Rattle.session_state.specs.declared.fault.GsFault.{GsFault}
use Rattle.session_state.specs.declared.state.SessionState.{SessionState}
use Rattle.node_state.specs.declared.call.CallLine.{CallLine}
use Rattle.node_state.specs.declared.call.CallLine.TheVariants as call

-- a session that begins has its client behind all others
abbrev pub clients_with : {A : Type 0} → A → List A → Result SessionState GsFault → List A
clients_with c cs (Ok t) = cs ++ c ∷ []
clients_with c cs (Err fault) = cs

-- neither begins nor ends a session
abbrev pub is_within_session : CallLine → Bool
is_within_session (call.Init node name votes) = false
is_within_session (call.Goodbye client) = false
is_within_session _ = true
