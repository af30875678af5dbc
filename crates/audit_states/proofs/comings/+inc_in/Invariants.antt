use Rattle.std.proofs.Common.{length}
use Rattle.audit_states.proofs.comings.+inc_in.Given as goal

abbrev pub decreases-inc_in : goal.decreases-inc_in
decreases-inc_in l = length l.members.now
