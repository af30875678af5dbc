-- The digits of the version.
use Rattle.std.proofs.Common.{refl}
use Rattle.std.specs.Fmt.{digits}
use Rattle.daemon_model.specs.SelfLines.{version_text}
use Rattle.hags_cli.proofs.daemon_command.versions_agree.Goals as goal

pub returns : goal.returns
unfolding version_text digits
returns c = refl
