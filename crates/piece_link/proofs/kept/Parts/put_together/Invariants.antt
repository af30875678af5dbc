use Rattle.std.proofs.Common.{◌≡◌}
use Rattle.piece_link.specs.Slots.{text_at, joined_below, with_text}
use Rattle.piece_link.proofs.kept.Parts.put_together.Given as goal

abbrev pub invariant-loop-i : goal.invariant-loop-i
invariant-loop-i l = l.message.items ≡ joined_below l.i (with_text (text_at l.self-inside.slots l.self-inside.bytes.items) l.at l.text)
