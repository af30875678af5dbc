-- The voters so far carry nothing.
use Rattle.std.proofs.Common.{◌≡◌, drop}
use Rattle.node_state.specs.Leading.{first_carried}
use Rattle.phase_closing.specs.Parts.{part_of}
use Rattle.phase_closing.proofs.closing.first_carried.Given as goal

abbrev pub invariant-loop-voter : goal.invariant-loop-voter
invariant-loop-voter l = first_carried (part_of l.part) l.given l.voters ≡ first_carried (part_of l.part) l.given (drop l.voter-index l.voters)
