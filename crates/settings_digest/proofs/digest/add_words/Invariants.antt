use Rattle.std.proofs.Common.{length}
use Rattle.std.specs.Prelude.{flat_map}
use Rattle.settings_digest.specs.Digest.{behind_blank}
use Rattle.settings_digest.proofs.DigestLaws.{AddsFront}
use Rattle.settings_digest.proofs.digest.add_words.Given as goal

abbrev pub invariant-loop-word : goal.invariant-loop-word
invariant-loop-word l = AddsFront l.initial.hasher l.hasher (flat_map behind_blank l.initial.words) (flat_map behind_blank l.words)

abbrev pub decreases-loop-word : goal.decreases-loop-word
decreases-loop-word l = length l.words
