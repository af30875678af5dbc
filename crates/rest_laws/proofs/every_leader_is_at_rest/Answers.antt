use Rattle.rest_laws.proofs.Runs.{every_leader_is_at_rest as law}
use Rattle.rest_laws.proofs.every_leader_is_at_rest.Goals as goal

pub returns : goal.returns
returns c = law
