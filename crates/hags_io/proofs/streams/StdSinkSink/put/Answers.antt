use Rattle.std.proofs.Common.{arith, length-drop}
use Rattle.hags_io.proofs.ByteLaws.{sent_on, from_place}
use Rattle.hags_io.proofs.streams.StdSinkSink.put.Goals as goal

pub loop-done-preserved : goal.loop-done-preserved
loop-done-preserved g c = (
  grind (arith, c.in-Ok.ensures.bound, from_place, length-drop),
  c.loop-done.invariant.1,
  sent_on _ _ _ _ _ _ c.loop-done.invariant.2 c.in-Ok.ensures.bytes,
)
