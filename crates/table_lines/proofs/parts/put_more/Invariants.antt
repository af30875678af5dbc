-- The pairs that are left.
use Rattle.std.proofs.Common.{◌≡◌, ◌++◌}
use Rattle.agreed_table.specs.Pairs.{pairs_of}
use Rattle.table_lines.specs.Lines.{more_text}
use Rattle.table_lines.proofs.parts.put_more.Given as goal

abbrev pub invariant-loop-key : goal.invariant-loop-key
invariant-loop-key l = l.out.items ++ more_text (pairs_of l.key-iterator) ≡ l.fn.out.items ++ more_text (pairs_of l.fn.pairs)
