use Rattle.std.proofs.Common.{◌≡◌, map, take, drop, ◌++◌}
use Rattle.vote_phases.specs.Tally.{given_to}
use Rattle.vote_phases.proofs.voter.give.Given as goal

abbrev pub invariant-loop-i : goal.invariant-loop-i
invariant-loop-i l = l.voters ≡ map (given_to l.provider l.vote) (take l.i l.initial.voters) ++ drop l.i l.initial.voters
