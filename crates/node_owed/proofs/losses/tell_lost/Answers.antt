-- What is sent keeps what it is to keep.
use Rattle.std.proofs.Common.{take}
use Rattle.std.specs.Prelude.{filter, is_some}
use Rattle.node_groups.proofs.KeepLaws.{keeps_as}
use Rattle.node_owed.proofs.LossLaws.{keeps_told}
use Rattle.node_owed.proofs.losses.tell_lost.Goals as goal

pub returns-clause-keeps : goal.returns-clause-keeps
returns-clause-keeps c = keeps_as _ _ _ c.loop-i.invariant (keeps_told c.args.core.now (filter (λ row. is_some row.list) (take c.loop-i.i c.args.core.now.groups)))
