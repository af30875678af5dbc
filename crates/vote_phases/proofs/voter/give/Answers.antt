use Rattle.std.proofs.Common.{arith}
use Rattle.vote_phases.specs.Tally.{given_to}
use Rattle.vote_phases.proofs.TallyLaws.{mapped_more}
use Rattle.vote_phases.proofs.voter.give.Goals as goal

pub loop-i-preserved : goal.loop-i-preserved
loop-i-preserved c = rw c.given_to.ensures (mapped_more (given_to c.args.provider c.args.vote) c.args.voters.now c.loop-i.voters c.loop-i.i _ (omega arith) (omega arith) c.loop-i.invariant)
