-- The providers of the client so far.
use Rattle.std.proofs.Common.{◌≡◌, take, filter}
use Rattle.session_state.specs.State.{is_client_of}
use Rattle.node_calls.proofs.sessions.providers_of.Given as goal

abbrev pub invariant-loop-x : goal.invariant-loop-x
invariant-loop-x l = l.out ≡ filter (is_client_of l.client) (take l.x-index l.rows)
