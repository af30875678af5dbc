-- Who was told of so far; the rows stay.
use Rattle.std.proofs.Common.{◌≡◌, take}
use Rattle.std.specs.Prelude.{filter, fold, is_some}
use Rattle.node_state.specs.Ticks.{lost_told}
use Rattle.node_owed.proofs.losses.tell_lost.Given as goal

abbrev pub invariant-loop-i : goal.invariant-loop-i
invariant-loop-i l = l.core ≡ fold lost_told l.initial.core (filter (λ row. is_some row.list) (take l.i l.initial.core.groups))
