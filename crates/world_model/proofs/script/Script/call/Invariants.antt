use Rattle.std.proofs.Common.{◌≡◌, length}
use Rattle.world_model.specs.Settings.{call_at}
use Rattle.world_model.proofs.CallLaws.{call_in}
use Rattle.world_model.proofs.script.Script.call.Given as goal

abbrev pub invariant-loop-lines : goal.invariant-loop-lines
invariant-loop-lines l = call_in l.lines l.left ≡ call_at l.self l.index

abbrev pub decreases-loop-lines : goal.decreases-loop-lines
decreases-loop-lines l = length l.lines
