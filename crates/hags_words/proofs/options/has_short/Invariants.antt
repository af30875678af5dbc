use Rattle.std.proofs.Common.{◌≡◌, map, drop}
use Rattle.std.specs.Prelude.{string_bytes}
use Rattle.hags_words.specs.Options.{has_short}
use Rattle.hags_words.proofs.options.has_short.Given as goal

abbrev pub invariant-loop-word : goal.invariant-loop-word
invariant-loop-word l = has_short (map string_bytes (drop l.word-index l.words)) ≡ has_short (map string_bytes l.words)
