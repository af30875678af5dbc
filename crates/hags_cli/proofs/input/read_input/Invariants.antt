use Rattle.std.proofs.Common.{◌≤◌, ◌-◌, vec_len}
use Rattle.std.specs.Io.KnownBytes.{Consumes}
use Rattle.hags_cli.proofs.input.read_input.Given as goal

abbrev pub invariant-loop-buf : goal.invariant-loop-buf
invariant-loop-buf g l = Consumes (g.S.Source.left l.initial.input) (g.S.Source.left l.input) l.front.items × (g.S.Source.faults l.initial.input ≤ g.S.Source.faults l.input)

abbrev pub decreases-loop-buf : goal.decreases-loop-buf
decreases-loop-buf g l = 16777217 - vec_len l.front
