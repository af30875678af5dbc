-- A call that failed ended by its ending's status.
use Rattle.hags_cli.proofs.TaskLaws.{failed}
use Rattle.hags_cli.proofs.status.hags.Goals as goal

pub returns-in-Err-clause-ended : goal.returns-in-Err-clause-ended
returns-in-Err-clause-ended g c = failed c.in-Err.ending c.status_of.result _ _ c.status_of.ensures c.in-Err.ensures
