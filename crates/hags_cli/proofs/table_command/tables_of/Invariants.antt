-- The lines so far.
use Rattle.std.proofs.Common.{◌≡◌, take}
use Rattle.std.specs.Prelude.{find, flat_map}
use Rattle.net_script.specs.Standing.{is_me}
use Rattle.hags_cli.specs.Tables.{node_text}
use Rattle.hags_cli.proofs.table_command.tables_of.Given as goal

abbrev pub invariant-loop-number : goal.invariant-loop-number
invariant-loop-number l = l.text.items ≡ flat_map (λ k. node_text l.group (find (is_me k) l.world.nodes)) (take l.number-index l.number-items)
