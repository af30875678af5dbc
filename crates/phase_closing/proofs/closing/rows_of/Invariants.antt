-- The rows of the voters so far.
use Rattle.std.proofs.Common.{◌≡◌, take}
use Rattle.vote_phases.specs.Tally.{rows_of}
use Rattle.phase_closing.proofs.closing.rows_of.Given as goal

abbrev pub invariant-loop-voter : goal.invariant-loop-voter
invariant-loop-voter l = l.rows ≡ rows_of (take l.voter-index l.voters)
