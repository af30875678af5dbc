use Rattle.std.proofs.Common.{length}
use Rattle.net_script.proofs.BeginLaws.{StartsTo}
use Rattle.net_script.proofs.EmptyLaws.{StartsEmpty}
use Rattle.net_script.proofs.world.World.start_all.Given as goal

abbrev pub invariant-loop-n : goal.invariant-loop-n
invariant-loop-n g l = record {
  starts : StartsTo g.C.Callbacks.script g.C.Made.script_of l.fn.self l.self l.fn.out l.out l.nodes l.left;
  empty : StartsEmpty g.C.Callbacks.stands_for g.C.Callbacks.script g.C.Made.script_of l.fn.self l.self l.nodes l.left;
}

abbrev pub decreases-loop-n : goal.decreases-loop-n
decreases-loop-n g l = length l.left
