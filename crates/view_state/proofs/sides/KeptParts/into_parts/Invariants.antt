use Rattle.std.proofs.Common.{◌≡◌}
use Rattle.std.specs.Prelude.{map}
use Rattle.view_state.specs.declared.sides.Kept.{Kept}
use Rattle.view_state.proofs.sides.KeptParts.into_parts.Given as goal

abbrev pub invariant-loop-kept : goal.invariant-loop-kept
invariant-loop-kept l = l.out ≡ map (λ (k : Kept). k.part) l.yielded
