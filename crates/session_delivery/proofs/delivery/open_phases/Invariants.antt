use Rattle.std.proofs.Common.{◌≡◌, take}
use Rattle.std.specs.List.{fold}
use Rattle.session_state.specs.State.{with_provider}
use Rattle.session_state.specs.HandOn.{opened_after}
use Rattle.session_state.specs.Calls.{SameSessions}
use Rattle.session_delivery.proofs.delivery.open_phases.Given as goal

abbrev pub invariant-loop-p : goal.invariant-loop-p
invariant-loop-p l = record { state : l.sessions ≡ fold (λ t p. with_provider t p (opened_after l.entry.entry.now l.entry.after.now)) l.initial.sessions (take l.p-index l.providers); same : SameSessions l.initial.sessions l.sessions }
