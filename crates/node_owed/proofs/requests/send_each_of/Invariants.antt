-- What was sent so far.
use Rattle.std.proofs.Common.{◌≡◌, take, filter}
use Rattle.std.specs.List.{fold}
use Rattle.std.specs.Str.{bytes_eq}
use Rattle.session_state.specs.declared.state.Request.{Request}
use Rattle.node_state.specs.Sending.{send_request}
use Rattle.node_owed.proofs.requests.send_each_of.Given as goal

abbrev pub invariant-loop-q : goal.invariant-loop-q
invariant-loop-q l = l.core ≡ fold send_request l.initial.core (filter (λ (q : Request). bytes_eq q.group l.group) (take l.q-index l.requests))
