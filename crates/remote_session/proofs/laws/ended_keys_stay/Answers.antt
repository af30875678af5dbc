use Rattle.remote_session.proofs.EndedRuns.{ended_stay}
use Rattle.remote_session.proofs.laws.ended_keys_stay.Goals as goal

pub returns-clause-stay : goal.returns-clause-stay
returns-clause-stay c = ended_stay
