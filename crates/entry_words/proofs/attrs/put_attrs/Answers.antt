use Rattle.std.proofs.Common.{List, ℕ, ◌++◌, get_or, ◌∙◌, ap}
use Rattle.entry_words.specs.declared.attrs.AttrKey.TheVariants as key
use Rattle.entry_words.specs.Words.{every_key}
use Rattle.entry_words.specs.Wording.{attr_text}
use Rattle.entry_words.proofs.AttrLaws.{one_written}
use Rattle.entry_words.proofs.attrs.put_attrs.Goals as goal

pub loop-key-preserved : goal.loop-key-preserved
loop-key-preserved c =
    one_written c.args.attrs.now c.loop-key.key-index key.Phases every_key c.args.out.now.items c.put.new.out.items c.loop-key-test.true
    (c.in_ok-put.ensures ∙ ap (λ (t : List ℕ). t ++ attr_text c.args.attrs.now (get_or every_key c.loop-key.key-index key.Phases)) c.loop-key.invariant)
