use Rattle.entry_laws.proofs.carried_values.Law.{kept_ballots}
use Rattle.entry_laws.proofs.carried_values.kept_ballots_are_told.Goals as goal

pub returns : goal.returns
returns c = kept_ballots
