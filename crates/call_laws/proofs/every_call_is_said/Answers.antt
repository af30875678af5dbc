use Rattle.call_laws.proofs.Runs.{every_call_is_said as law}
use Rattle.call_laws.proofs.every_call_is_said.Goals as goal

pub returns : goal.returns
returns c = law
