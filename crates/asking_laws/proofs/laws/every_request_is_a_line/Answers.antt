use Rattle.asking_laws.proofs.Runs.{every_request_is_a_line as law}
use Rattle.asking_laws.proofs.laws.every_request_is_a_line.Goals as goal

pub returns : goal.returns
returns c = law
