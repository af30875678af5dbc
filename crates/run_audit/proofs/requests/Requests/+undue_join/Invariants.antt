use Rattle.std.proofs.Common.{length}
use Rattle.run_audit.proofs.requests.Requests.+undue_join.Given as goal

abbrev pub decreases-undue_join : goal.decreases-undue_join
decreases-undue_join l = length l.providers.now
