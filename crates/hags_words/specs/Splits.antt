-- Words that were split, as the grammar sees them.
use Rattle.std.specs.Prelude.{map, string_bytes}
use Rattle.hags_words.specs.Flags.{Split}
use Rattle.hags_words.specs.declared.flags.Split.{Split as Words}

abbrev pub split_seen : Words → Split
split_seen s = record { flags = s.flags; waiting = s.waiting; ended = s.ended; left = map string_bytes s.left.items }
