-- The lines so far.
use Rattle.std.proofs.Common.{◌≡◌, ◌++◌, take}
use Rattle.std.specs.Prelude.{flat_map}
use Rattle.hags_cli.specs.Tables.{named_text}
use Rattle.hags_cli.proofs.table_command.put_node.Given as goal

abbrev pub invariant-loop-name : goal.invariant-loop-name
invariant-loop-name l = l.out.items ≡ l.fn.out.items ++ flat_map (named_text l.group l.node) (take l.name-index l.name-items)
