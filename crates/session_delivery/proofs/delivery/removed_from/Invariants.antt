use Rattle.std.proofs.Common.{◌≡◌, take}
use Rattle.std.specs.Prelude.{filter, not}
use Rattle.session_state.specs.HandOn.{is_present}
use Rattle.session_delivery.proofs.delivery.removed_from.Given as goal

abbrev pub invariant-loop-p : goal.invariant-loop-p
invariant-loop-p l = l.gone ≡ filter (λ p. not (is_present l.after p)) (take l.p-index l.providers)
