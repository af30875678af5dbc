use Rattle.std.proofs.Common.{◌≡◌, drop}
use Rattle.proposal_core.proofs.group_list.drop_front.Given as goal

abbrev pub invariant-loop-i : goal.invariant-loop-i
invariant-loop-i l = l.entries.items ≡ drop l.i l.initial.entries.items
