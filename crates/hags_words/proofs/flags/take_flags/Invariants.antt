use Rattle.std.proofs.Common.{◌≡◌, map, drop}
use Rattle.std.specs.Prelude.{string_bytes}
use Rattle.hags_words.specs.Flags.{flag_from, flag_of}
use Rattle.hags_words.specs.Splits.{split_seen}
use Rattle.hags_words.proofs.flags.take_flags.Given as goal

abbrev pub invariant-loop-word : goal.invariant-loop-word
invariant-loop-word l = flag_from (split_seen l.split) (map string_bytes (drop l.word-index l.words)) ≡ flag_of (map string_bytes l.words)
