use Rattle.std.proofs.Common.{◌≡◌, take}
use Rattle.run_audit.specs.Past.{fold_from}
use Rattle.audit_states.proofs.folding.fold.Given as goal

abbrev pub invariant-loop-place : goal.invariant-loop-place
invariant-loop-place l = l.state ≡ fold_from l.view l.initial.state 0 (take l.place l.entries)
