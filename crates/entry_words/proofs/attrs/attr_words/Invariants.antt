use Rattle.std.proofs.Common.{◌≡◌, length}
use Rattle.entry_words.specs.Words.{attrs_from, attr_words}
use Rattle.entry_words.proofs.attrs.attr_words.Given as goal

abbrev pub invariant-loop-w : goal.invariant-loop-w
invariant-loop-w l = attrs_from l.read.seen l.read.attrs l.words ≡ attr_words l.initial.words

abbrev pub decreases-loop-w : goal.decreases-loop-w
decreases-loop-w l = length l.words
