-- What a step does stands for any node and event, so the law is named here.
use Rattle.row_laws.proofs.hearing.Listening.{steps_change}
use Rattle.row_laws.proofs.hearing.steps_are_changes.Goals as goal

pub returns : goal.returns
returns c = steps_change
