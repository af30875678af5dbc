use Rattle.std.proofs.Common.{◌≡◌, [], Some, take}
use Rattle.std.specs.List.{fold}
use Rattle.value_words.specs.declared.values.Escape.TheVariants.{Plain}
use Rattle.value_words.specs.Escapes.{text_byte}
use Rattle.value_words.proofs.values.text_of.Given as goal

abbrev pub invariant-loop-b : goal.invariant-loop-b
invariant-loop-b l = l.read ≡ fold text_byte (record { bytes = Some []; escape = Plain }) (take l.b-index l.word)
