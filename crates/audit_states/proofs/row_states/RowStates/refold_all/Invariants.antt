use Rattle.audit_states.proofs.RefoldLaws.{AreRefolded}
use Rattle.audit_states.proofs.row_states.RowStates.refold_all.Given as goal

abbrev pub invariant-loop-node : goal.invariant-loop-node
invariant-loop-node l = AreRefolded l.view l.group l.base l.entries l.node l.initial.self l.self
