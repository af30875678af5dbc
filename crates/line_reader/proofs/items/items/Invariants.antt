use Rattle.std.proofs.Common.{◌≡◌, length}
use Rattle.value_words.specs.Words.{split_on, each_read}
use Rattle.line_reader.proofs.PartLaws.{read_onto}
use Rattle.line_reader.proofs.items.items.Given as goal

abbrev pub invariant-loop-item : goal.invariant-loop-item
invariant-loop-item g l = read_onto l.items (each_read g.T.FromWord.reads (split_on 44 l.left)) ≡ each_read g.T.FromWord.reads (split_on 44 l.word)

abbrev pub decreases-loop-item : goal.decreases-loop-item
decreases-loop-item g l = length l.left
