use Rattle.run_audit.proofs.EnterLaws.{in_kept, in_broken}
use Rattle.run_audit.proofs.entering.in_fault.Goals as goal

pub returns-then-is_kept : goal.returns-then-is_kept
returns-then-is_kept c = λ ls starts stays views. in_kept _ _ _ _ _ _ _ ls c.is_kept.ensures (c.view-old.ensures ls stays) (c.inc-inc.ensures ls starts) (c.members-first.ensures ls views) c.if-is_kept.true

pub returns-else-is_kept : goal.returns-else-is_kept
returns-else-is_kept c = λ ls starts stays views. in_broken _ _ _ _ _ _ _ ls c.is_kept.ensures (c.view-old.ensures ls stays) (c.inc-inc.ensures ls starts) (c.members-first.ensures ls views) _ c.if-is_kept.false (c.first_line.ensures ls views)
