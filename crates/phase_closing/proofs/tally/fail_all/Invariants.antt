-- Those so far failed.
use Rattle.std.proofs.Common.{◌≡◌, take}
use Rattle.std.specs.List.{fold}
use Rattle.node_state.specs.Leading.{fails_if}
use Rattle.phase_closing.proofs.tally.fail_all.Given as goal

abbrev pub invariant-loop-p : goal.invariant-loop-p
invariant-loop-p l = l.tally ≡ fold (fails_if l.failed l.gone) l.initial.tally (take l.p-index l.voters)
