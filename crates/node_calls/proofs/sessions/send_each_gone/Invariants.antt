-- The leaders that were told so far.
use Rattle.std.proofs.Common.{◌≡◌, take}
use Rattle.std.specs.List.{fold}
use Rattle.node_state.specs.Calls.{send_gone}
use Rattle.node_groups.specs.Keeps.{Stays}
use Rattle.node_calls.proofs.sessions.send_each_gone.Given as goal

abbrev pub invariant-loop-x : goal.invariant-loop-x
invariant-loop-x l = (l.core ≡ fold send_gone l.initial.core (take l.x-index l.ended)) × Stays l.initial.core l.core
