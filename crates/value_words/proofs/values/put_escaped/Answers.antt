-- One byte more.
use Rattle.value_words.specs.Wording.{byte_text}
use Rattle.value_words.proofs.TextLaws.{item_on}
use Rattle.value_words.proofs.values.put_escaped.Goals as goal

pub loop-b-preserved : goal.loop-b-preserved
loop-b-preserved c = item_on byte_text _ c.args.bytes.now c.loop-b.b-index _ _ _ c.loop-b-test.true c.loop-b.invariant c.in_ok-put_byte.ensures
