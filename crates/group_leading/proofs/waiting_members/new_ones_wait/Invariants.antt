-- The new ones so far.
use Rattle.std.proofs.Common.{◌≡◌, take}
use Rattle.group_leading.specs.Waiting.{new_ones_wait}
use Rattle.group_leading.proofs.waiting_members.new_ones_wait.Given as goal

abbrev pub invariant-loop-p : goal.invariant-loop-p
invariant-loop-p l = l.core ≡ new_ones_wait l.initial.core l.group l.after.failed l.gone l.before.members (take l.p-index l.after.members)
