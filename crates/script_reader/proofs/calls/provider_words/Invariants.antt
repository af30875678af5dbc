use Rattle.std.proofs.Common.{◌≡◌, length}
use Rattle.value_words.specs.Words.{each_read, provider_word}
use Rattle.script_reader.proofs.EachLaws.{each_after}
use Rattle.script_reader.proofs.calls.provider_words.Given as goal

abbrev pub invariant-loop-w : goal.invariant-loop-w
invariant-loop-w l = each_after provider_word l.providers l.words ≡ each_read provider_word l.initial.words

abbrev pub decreases-loop-w : goal.decreases-loop-w
decreases-loop-w l = length l.words
