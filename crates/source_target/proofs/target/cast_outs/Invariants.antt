use Rattle.std.proofs.Common.{◌≡◌, take, option_copied}
use Rattle.source_target.specs.Due.{cast_outs}
use Rattle.source_target.proofs.target.cast_outs.Given as goal

abbrev pub invariant-loop-p : goal.invariant-loop-p
invariant-loop-p l = l.out ≡ cast_outs (take l.p-index l.members) (option_copied l.source)
