-- The lines so far.
use Rattle.std.proofs.Common.{◌≡◌, ◌++◌, take}
use Rattle.table_lines.specs.Lines.{copies_text}
use Rattle.table_lines.proofs.copies.put_copies.Given as goal

abbrev pub invariant-loop-place : goal.invariant-loop-place
invariant-loop-place l = l.out.items ≡ l.fn.out.items ++ copies_text l.group (take l.place l.client)
