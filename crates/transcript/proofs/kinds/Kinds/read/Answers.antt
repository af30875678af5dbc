use Rattle.transcript.proofs.KindLaws.{kinds_more}
use Rattle.transcript.proofs.kinds.Kinds.read.Goals as goal

pub loop-w-preserved : goal.loop-w-preserved
loop-w-preserved c = kinds_more c.loop-w.kinds c.in_ok-kinds.kinds c.loop-w.left.now c.in-Some.w.now c.in-Some.after.now _ c.in-Some.ensures.found c.in_ok-kinds.ensures c.loop-w.invariant
