use Rattle.std.proofs.Common.{◌≡◌, ◌++◌, take}
use Rattle.std.specs.Prelude.{filter}
use Rattle.session_state.specs.State.{provider_of}
use Rattle.session_state.specs.HandOn.{hears}
use Rattle.session_delivery.proofs.delivery.add_hearers.Given as goal

abbrev pub invariant-loop-p : goal.invariant-loop-p
invariant-loop-p l = l.out ≡ l.initial.out ++ filter (λ p. hears l.group l.part (provider_of l.sessions p)) (take l.p-index l.providers)
