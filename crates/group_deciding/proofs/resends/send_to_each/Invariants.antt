-- To whom entries were sent so far.
use Rattle.std.proofs.Common.{◌≡◌, take}
use Rattle.std.specs.Prelude.{fold}
use Rattle.node_state.specs.Ticks.{sent_again}
use Rattle.group_deciding.proofs.resends.send_to_each.Given as goal

abbrev pub invariant-loop-n : goal.invariant-loop-n
invariant-loop-n l = l.core ≡ fold (sent_again l.group) l.initial.core (take l.n-index l.nodes)
