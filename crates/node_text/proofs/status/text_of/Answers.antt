-- One line more.
use Rattle.std.proofs.Common.{◌++◌, [], ap, ◌∙◌}
use Rattle.std.specs.Prelude.{codes}
use Rattle.value_words.proofs.TextLaws.{pieces_on}
use Rattle.node_text.proofs.status.text_of.Goals as goal

pub loop-line-preserved : goal.loop-line-preserved
loop-line-preserved c =
    pieces_on (λ line. line ++ codes "\n") [] c.args.ls.now c.loop-line.line-index _ _ _ _ _ _ c.loop-line-test.true c.loop-line.invariant c.in_ok-put_text.ensures c.in_ok-put_text-2.ensures
    (ap (λ line. line ++ codes "\n") (c.as_slice.ensures ∙ c.line-item.is))
