-- What is sent keeps what it is to keep.
use Rattle.std.proofs.Common.{take}
use Rattle.node_groups.proofs.KeepLaws.{keeps_as}
use Rattle.group_deciding.proofs.ResendLaws.{keeps_each_again}
use Rattle.group_deciding.proofs.resends.send_to_each.Goals as goal

pub returns-clause-keeps : goal.returns-clause-keeps
returns-clause-keeps c = keeps_as _ _ _ c.loop-n.invariant (keeps_each_again c.args.group.now c.args.core.now (take c.loop-n.n-index c.args.nodes.now))
