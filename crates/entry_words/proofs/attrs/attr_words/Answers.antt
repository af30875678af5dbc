use Rattle.std.proofs.Common.{rules}
use Rattle.entry_words.specs.Words.{attr_words}
use Rattle.value_words.specs.Answers.{FailsWord}
use Rattle.entry_words.proofs.AttrLaws.{attr_fails}
use Rattle.entry_words.proofs.attrs.attr_words.Goals as goal

pub returns-in_err-take_word : goal.returns-in_err-take_word
returns-in_err-take_word c =
    let f : FailsWord c.in_err-take_word.field-0.0 (attr_words c.args.words.now) =
    attr_fails c.loop-w.read c.in-Some.w.now c.loop-w.words _ _ _ c.in-Some.ensures.found c.in_err-take_word.ensures.refused c.loop-w.invariant
    in
    search rules
