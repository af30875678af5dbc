-- The next voter's ballot carries it, or goes on to the voters behind; behind the last nothing is carried.
use Rattle.std.proofs.Common.{sym, ◌∙◌}
use Rattle.phase_closing.specs.Parts.{part_of}
use Rattle.phase_closing.proofs.ClosingLaws.{carried_here, carried_on, carried_last}
use Rattle.phase_closing.proofs.closing.first_carried.Goals as goal

pub returns-in-Some : goal.returns-in-Some
returns-in-Some c =
    sym (c.loop-voter.invariant
    ∙ carried_here (part_of c.args.part) c.args.given.now c.args.voters.now c.loop-voter.voter-index _ c.in-Some.text.now c.loop-voter-test.true c.in-Some.ensures)

pub loop-voter-preserved : goal.loop-voter-preserved
loop-voter-preserved c =
    c.loop-voter.invariant
    ∙ carried_on (part_of c.args.part) c.args.given.now c.args.voters.now c.loop-voter.voter-index _ c.loop-voter-test.true c.in_default.ensures

pub returns : goal.returns
returns c =
    sym (c.loop-voter.invariant
    ∙ carried_last (part_of c.args.part) c.args.given.now c.args.voters.now c.loop-voter.voter-index c.loop-voter-test.false)
