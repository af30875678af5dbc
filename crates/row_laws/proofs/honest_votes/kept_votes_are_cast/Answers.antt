use Rattle.row_laws.proofs.honest_votes.Law.{kept_votes}
use Rattle.row_laws.proofs.honest_votes.kept_votes_are_cast.Goals as goal

pub returns : goal.returns
returns c = kept_votes
