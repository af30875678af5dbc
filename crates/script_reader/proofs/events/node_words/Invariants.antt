use Rattle.std.proofs.Common.{◌≡◌, length}
use Rattle.value_words.specs.Words.{each_read, node_word}
use Rattle.script_reader.proofs.EachLaws.{each_after}
use Rattle.script_reader.proofs.events.node_words.Given as goal

abbrev pub invariant-loop-w : goal.invariant-loop-w
invariant-loop-w l = each_after node_word l.nodes l.words ≡ each_read node_word l.initial.words

abbrev pub decreases-loop-w : goal.decreases-loop-w
decreases-loop-w l = length l.words
