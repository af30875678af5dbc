use Rattle.std.proofs.Common.{◌≡◌, length}
use Rattle.view_state.specs.Answers.{with_parts}
use Rattle.view_exchange.proofs.sides.keep_all.Given as goal

abbrev pub invariant-loop-part : goal.invariant-loop-part
invariant-loop-part l = with_parts l.node l.fn.kept.items l.parts ≡ with_parts l.node l.kept.items l.left

abbrev pub decreases-loop-part : goal.decreases-loop-part
decreases-loop-part l = length l.left
