use Rattle.table_laws.proofs.Voting.{ballots_send_chunks as law}
use Rattle.table_laws.proofs.laws.ballots_send_chunks.Goals as goal

pub returns : goal.returns
returns c = law
