-- The records so far.
use Rattle.std.proofs.Common.{◌≡◌, ◌++◌, map}
use Rattle.node_state.specs.declared.happened.Happened.TheVariants as happened
use Rattle.node_text.proofs.status.record_lines.Given as goal

abbrev pub invariant-loop-line : goal.invariant-loop-line
invariant-loop-line l = l.out ≡ l.initial.out ++ map (happened.Shown l.node) l.yielded
