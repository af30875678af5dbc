-- The names of the led groups so far.
use Rattle.std.proofs.Common.{◌≡◌, take}
use Rattle.node_groups.specs.Places.{names_led}
use Rattle.node_groups.proofs.reads.names_led.Given as goal

abbrev pub invariant-loop-row : goal.invariant-loop-row
invariant-loop-row l = l.names.items ≡ names_led l.core (take l.row-index l.rows)
