-- Each step keeps what it is to keep.
use Rattle.std.proofs.Common.{take}
use Rattle.node_groups.proofs.KeepLaws.{keeps_as}
use Rattle.node_rings.proofs.RingLaws.{keeps_ticks}
use Rattle.node_rings.proofs.tick.tick_each.Goals as goal

pub returns-clause-keeps : goal.returns-clause-keeps
returns-clause-keeps c = keeps_as _ _ _ c.loop-ring.invariant (keeps_ticks c.args.core.now (take c.loop-ring.ring-index c.args.rings.now))
