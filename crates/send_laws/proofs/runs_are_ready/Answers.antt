-- What stands of any event at any node, so the law is named here.
use Rattle.send_laws.proofs.Law.{runs_ready}
use Rattle.send_laws.proofs.runs_are_ready.Goals as goal

pub returns : goal.returns
returns c = runs_ready
