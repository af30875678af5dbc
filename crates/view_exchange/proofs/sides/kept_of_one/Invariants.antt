use Rattle.std.proofs.Common.{◌≡◌, ◌++◌, length}
use Rattle.std.specs.Prelude.{map}
use Rattle.view_state.specs.Answers.{kept_of}
use Rattle.view_exchange.proofs.sides.kept_of_one.Given as goal

abbrev pub invariant-loop-part : goal.invariant-loop-part
invariant-loop-part l = map (kept_of l.node) l.parts ≡ l.items.items ++ map (kept_of l.node) l.left

abbrev pub decreases-loop-part : goal.decreases-loop-part
decreases-loop-part l = length l.left
