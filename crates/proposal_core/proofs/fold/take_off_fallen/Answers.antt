use Rattle.std.proofs.Common.{sym, ◌∙◌}
use Rattle.proposal_core.proofs.FoldLaws.{nobody_off, fallen_more}
use Rattle.proposal_core.proofs.fold.take_off_fallen.Goals as goal

pub loop-f-init : goal.loop-f-init
loop-f-init c = sym (nobody_off _)

pub loop-f-preserved : goal.loop-f-preserved
loop-f-preserved c = c.retain_not.ensures ∙ rw c.loop-f.invariant (sym (fallen_more _ _ _ _ c.loop-f-test.true))
