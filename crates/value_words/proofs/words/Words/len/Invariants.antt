use Rattle.std.proofs.Common.{◌≡◌, ◌+◌, ◌≤◌, length}
use Rattle.value_words.specs.Words.{words_in}
use Rattle.value_words.proofs.words.Words.len.Given as goal

abbrev pub invariant-loop-after : goal.invariant-loop-after
invariant-loop-after l = (l.n + length (words_in l.left) ≡ length l.self) × (l.n + length l.left ≤ length l.initial.left)

abbrev pub decreases-loop-after : goal.decreases-loop-after
decreases-loop-after l = length l.left
