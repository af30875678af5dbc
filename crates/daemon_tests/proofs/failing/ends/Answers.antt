use Rattle.std.proofs.Common.{refl}
use Rattle.daemon_tests.specs.declared.failing.TheConstants.{MOMENTS}
use Rattle.daemon_tests.proofs.MomentLaws.{rising_ascend}
use Rattle.daemon_tests.proofs.failing.ends.Goals as goal

pub new-requires-clause-ascend : goal.new-requires-clause-ascend
new-requires-clause-ascend c = rising_ascend MOMENTS.now refl
