use Rattle.std.proofs.Common.{length}
use Rattle.settings_digest.specs.Digest.{normal_settings}
use Rattle.settings_digest.proofs.DigestLaws.{AddsFront}
use Rattle.settings_digest.proofs.digest.add_settings.Given as goal

abbrev pub invariant-loop-line : goal.invariant-loop-line
invariant-loop-line l = AddsFront l.initial.hasher l.hasher (normal_settings l.settings) (normal_settings l.left)

abbrev pub decreases-loop-line : goal.decreases-loop-line
decreases-loop-line l = length l.left
