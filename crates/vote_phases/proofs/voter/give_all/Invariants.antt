use Rattle.std.proofs.Common.{◌≡◌, map, take, drop, ◌++◌}
use Rattle.vote_phases.specs.Tally.{given}
use Rattle.vote_phases.proofs.voter.give_all.Given as goal

abbrev pub invariant-loop-i : goal.invariant-loop-i
invariant-loop-i l = l.voters ≡ map (given l.vote) (take l.i l.initial.voters) ++ drop l.i l.initial.voters
