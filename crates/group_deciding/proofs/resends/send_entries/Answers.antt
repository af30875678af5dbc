-- What is sent keeps what it is to keep.
use Rattle.node_groups.proofs.KeepLaws.{keeps_as}
use Rattle.group_deciding.proofs.ResendLaws.{keeps_entries}
use Rattle.group_deciding.proofs.resends.send_entries.Goals as goal

pub returns-clause-keeps : goal.returns-clause-keeps
returns-clause-keeps c = keeps_as _ _ _ c.loop-entry.invariant.0 (keeps_entries c.args.to c.args.group.now c.args.first c.args.stable c.loop-entry.yielded c.args.core.now)
