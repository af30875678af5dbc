-- The law holds for any lines, so it is named here.
use Rattle.run_laws.proofs.seen_runs.Once.{safe_entries_asked}
use Rattle.run_laws.proofs.seen_runs.entries_were_asked.Goals as goal

pub returns : goal.returns
returns c = safe_entries_asked
