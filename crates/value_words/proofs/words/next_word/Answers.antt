use Rattle.std.proofs.Common.{sym, ◌∙◌}
use Rattle.value_words.proofs.SplitLaws.{last_word}
use Rattle.value_words.proofs.words.next_word.Goals as goal

pub returns-clause-found : goal.returns-clause-found
returns-clause-found c =
    sym c.loop-word.invariant.0 ∙ last_word c.loop-word.left.now c.as_slice.result.now c.in_default.ensures.missing (cc) (cc)
