use Rattle.std.proofs.Common.{◌≡◌}
use Rattle.std.specs.Prelude.{map}
use Rattle.view_state.specs.Answers.{kept_of}
use Rattle.view_state.proofs.sides.KeptParts.of_parts.Given as goal

abbrev pub invariant-loop-part : goal.invariant-loop-part
invariant-loop-part l = l.items.items ≡ map (kept_of l.node) l.yielded
