use Rattle.std.proofs.Common.{◌≡◌, ◌++◌, take}
use Rattle.std.specs.Prelude.{flat_map}
use Rattle.view_state.specs.Codec.{group_part_text}
use Rattle.view_exchange.proofs.writing.put_each_part.Given as goal

abbrev pub invariant-loop-part : goal.invariant-loop-part
invariant-loop-part l = l.out.items ≡ l.initial.out.items ++ flat_map group_part_text (take l.part-index l.parts)
