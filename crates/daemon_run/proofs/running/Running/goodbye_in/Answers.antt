-- The goodbye that is owed is a plain call.
use Rattle.daemon_run.proofs.KeepLaws.{goodbye_plain}
use Rattle.daemon_run.proofs.running.Running.goodbye_in.Goals as goal

pub returns-in-Some-clause-plain : goal.returns-in-Some-clause-plain
returns-in-Some-clause-plain g c = goodbye_plain c.goodbye_owed.result _ _ c.goodbye_owed.ensures
