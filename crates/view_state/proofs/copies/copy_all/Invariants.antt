use Rattle.std.proofs.Common.{◌≡◌, take}
use Rattle.view_state.proofs.copies.copy_all.Given as goal

abbrev pub invariant-loop-x : goal.invariant-loop-x
invariant-loop-x g l = l.out ≡ take l.x-index l.items
