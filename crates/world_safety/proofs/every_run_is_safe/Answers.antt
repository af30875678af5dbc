-- What each group sees, and the lists of all groups, are both for any number, so the law is named here.
use Rattle.world_safety.proofs.Runs.{every_run_is_safe}
use Rattle.world_safety.proofs.every_run_is_safe.Goals as goal

pub returns : goal.returns
returns c = every_run_is_safe
