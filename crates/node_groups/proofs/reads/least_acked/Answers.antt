-- No row: nobody has acknowledged anything.
use Rattle.node_groups.proofs.TableLaws.{least_missing}
use Rattle.node_groups.proofs.reads.least_acked.Goals as goal

pub returns-in-None : goal.returns-in-None
returns-in-None c = least_missing c.args.core.now c.args.group.now c.in-None.ensures
