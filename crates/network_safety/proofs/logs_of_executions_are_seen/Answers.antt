use Rattle.network_safety.proofs.Logs.{logs_of_executions_are_seen, logs_of_served_are_seen}
use Rattle.network_safety.proofs.logs_of_executions_are_seen.Goals as goal

pub returns-clause-spelled : goal.returns-clause-spelled
returns-clause-spelled g c = logs_of_executions_are_seen _

pub returns-clause-served : goal.returns-clause-served
returns-clause-served g c = logs_of_served_are_seen _
