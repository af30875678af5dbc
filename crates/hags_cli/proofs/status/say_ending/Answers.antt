use Rattle.std.proofs.Common.{◌∙◌}
use Rattle.hags_cli.proofs.TaskLaws.{says_bad_line}
use Rattle.hags_cli.proofs.status.say_ending.Goals as goal

pub returns-in-Ok : goal.returns-in-Ok
returns-in-Ok g c = says_bad_line _ _ _ _ _ _ _ _ c.in-BadLine.is (c.as_slice.ensures.value ∙ c.in-Ok.ensures) c.say.ensures
