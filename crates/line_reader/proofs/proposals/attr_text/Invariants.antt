use Rattle.std.proofs.Common.{◌≡◌, ◌++◌, length}
use Rattle.value_words.specs.Words.{words_in}
use Rattle.record_lines.specs.Reading.{attrs_in}
use Rattle.line_reader.proofs.proposals.attr_text.Given as goal

abbrev pub invariant-loop-w : goal.invariant-loop-w
invariant-loop-w l = words_in l.text.items ++ attrs_in l.words ≡ attrs_in l.initial.words

abbrev pub decreases-loop-w : goal.decreases-loop-w
decreases-loop-w l = length l.words
