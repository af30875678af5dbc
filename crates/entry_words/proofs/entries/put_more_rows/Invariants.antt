use Rattle.std.proofs.Common.{◌≡◌, ◌++◌, take}
use Rattle.std.specs.Prelude.{codes, flat_map}
use Rattle.entry_words.specs.Wording.{row_text}
use Rattle.entry_words.proofs.entries.put_more_rows.Given as goal

abbrev pub invariant-loop-row : goal.invariant-loop-row
invariant-loop-row l = l.out.items ≡ l.initial.out.items ++ flat_map (λ y. codes "," ++ row_text y) (take l.row-index l.rows)
