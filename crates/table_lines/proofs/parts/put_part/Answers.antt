-- One byte more.
use Rattle.value_words.proofs.TextLaws.{item_on}
use Rattle.table_lines.specs.Lines.{part_byte}
use Rattle.table_lines.proofs.parts.put_part.Goals as goal

pub loop-byte-preserved : goal.loop-byte-preserved
loop-byte-preserved c = item_on part_byte _ c.args.bytes.now c.loop-byte.byte-index _ _ _ c.loop-byte-test.true c.loop-byte.invariant c.in_ok-put_part_byte.ensures
