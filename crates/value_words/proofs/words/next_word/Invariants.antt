use Rattle.std.proofs.Common.{◌≡◌, ◌≤◌, length}
use Rattle.value_words.specs.Words.{words_in}
use Rattle.value_words.proofs.words.next_word.Given as goal

abbrev pub invariant-loop-word : goal.invariant-loop-word
invariant-loop-word l = (words_in l.left ≡ words_in l.line) × (length l.left ≤ length l.line)

abbrev pub decreases-loop-word : goal.decreases-loop-word
decreases-loop-word l = length l.left
