use Rattle.std.proofs.Common.{length}
use Rattle.run_audit.proofs.requests.+note_joins.Given as goal

abbrev pub decreases-note_joins : goal.decreases-note_joins
decreases-note_joins l = length l.providers.now
