-- The bytes so far.
use Rattle.std.proofs.Common.{◌≡◌, ◌++◌, take}
use Rattle.std.specs.Prelude.{flat_map}
use Rattle.table_lines.specs.Lines.{part_byte}
use Rattle.table_lines.proofs.parts.put_part.Given as goal

abbrev pub invariant-loop-byte : goal.invariant-loop-byte
invariant-loop-byte l = l.out.items ≡ l.initial.out.items ++ flat_map part_byte (take l.byte-index l.bytes)
