use Rattle.std.proofs.Common.{◌≡◌, length}
use Rattle.value_words.specs.Words.{hex_word}
use Rattle.value_words.proofs.HexLaws.{hex_after}
use Rattle.value_words.proofs.hex.hex_word.Given as goal

abbrev pub invariant-loop-left : goal.invariant-loop-left
invariant-loop-left l = hex_after l.bytes l.left ≡ hex_word l.word

abbrev pub decreases-loop-left : goal.decreases-loop-left
decreases-loop-left l = length l.left
