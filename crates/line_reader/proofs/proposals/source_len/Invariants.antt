use Rattle.std.proofs.Common.{◌≡◌, length, filter}
use Rattle.word_laws.specs.Entries.{is_source_len}
use Rattle.line_reader.proofs.proposals.source_len.Given as goal

abbrev pub invariant-loop-w : goal.invariant-loop-w
invariant-loop-w l = filter is_source_len l.words ≡ filter is_source_len l.initial.words

abbrev pub decreases-loop-w : goal.decreases-loop-w
decreases-loop-w l = length l.words
