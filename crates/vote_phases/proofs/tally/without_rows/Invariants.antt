use Rattle.std.proofs.Common.{◌≡◌, map, take}
use Rattle.vote_phases.specs.Tally.{no_vote}
use Rattle.vote_phases.proofs.tally.without_rows.Given as goal

abbrev pub invariant-loop-p : goal.invariant-loop-p
invariant-loop-p l = l.voters.items ≡ map no_vote (take l.p-index l.providers)
