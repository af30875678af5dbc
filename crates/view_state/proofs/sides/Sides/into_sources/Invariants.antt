use Rattle.std.proofs.Common.{◌≡◌}
use Rattle.std.specs.Prelude.{map}
use Rattle.view_state.specs.Answers.{source_of}
use Rattle.view_state.proofs.sides.Sides.into_sources.Given as goal

abbrev pub invariant-loop-side : goal.invariant-loop-side
invariant-loop-side l = l.out ≡ map source_of l.yielded
