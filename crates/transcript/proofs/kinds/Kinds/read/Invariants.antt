use Rattle.std.proofs.Common.{◌≡◌, length}
use Rattle.value_words.specs.Words.{split_on}
use Rattle.transcript.specs.Kinds.{kinds_from, kinds_of}
use Rattle.transcript.proofs.kinds.Kinds.read.Given as goal

abbrev pub invariant-loop-w : goal.invariant-loop-w
invariant-loop-w l = kinds_from l.kinds (split_on 44 l.left) ≡ kinds_of l.word

abbrev pub decreases-loop-w : goal.decreases-loop-w
decreases-loop-w l = length l.left
