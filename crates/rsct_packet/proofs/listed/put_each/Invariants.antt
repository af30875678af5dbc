use Rattle.std.proofs.Common.{◌≡◌, ◌++◌, take}
use Rattle.std.specs.Prelude.{flat_map}
use Rattle.rsct_packet.proofs.listed.put_each.Given as goal

abbrev pub invariant-loop-x : goal.invariant-loop-x
invariant-loop-x g l = l.out.items ≡ l.initial.out.items ++ flat_map g.T.Item.text (take l.x-index l.items)
