use Rattle.request_laws.proofs.Runs.{every_request_is_kept as law}
use Rattle.request_laws.proofs.every_request_is_kept.Goals as goal

pub returns : goal.returns
returns c = law
