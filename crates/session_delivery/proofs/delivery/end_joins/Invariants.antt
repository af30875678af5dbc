use Rattle.std.proofs.Common.{◌≡◌, take}
use Rattle.std.specs.List.{fold}
use Rattle.session_state.specs.State.{end_request}
use Rattle.session_state.specs.Calls.{SameSessions}
use Rattle.session_delivery.proofs.delivery.end_joins.Given as goal

abbrev pub invariant-loop-p : goal.invariant-loop-p
invariant-loop-p l = record { state : l.sessions ≡ fold (λ t p. end_request t p p.join) l.initial.sessions (take l.p-index l.providers); same : SameSessions l.initial.sessions l.sessions }
