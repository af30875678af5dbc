use Rattle.asking_laws.proofs.Runs.{every_request_is_spelled as law}
use Rattle.asking_laws.proofs.laws.every_request_is_spelled.Goals as goal

pub returns : goal.returns
returns c = law
