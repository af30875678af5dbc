-- What was sent so far.
use Rattle.std.proofs.Common.{◌≡◌, take}
use Rattle.std.specs.List.{fold}
use Rattle.node_state.specs.Sending.{send_request}
use Rattle.node_owed.proofs.requests.send_each.Given as goal

abbrev pub invariant-loop-q : goal.invariant-loop-q
invariant-loop-q l = l.core ≡ fold send_request l.initial.core (take l.q-index l.requests)
