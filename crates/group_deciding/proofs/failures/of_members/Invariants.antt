-- Those of the failures so far that are of members.
use Rattle.std.proofs.Common.{◌≡◌, take}
use Rattle.group_deciding.specs.BeginFailures.{of_members}
use Rattle.group_deciding.proofs.failures.of_members.Given as goal

abbrev pub invariant-loop-x : goal.invariant-loop-x
invariant-loop-x l = l.out ≡ of_members l.members (take l.x-index l.failures)
