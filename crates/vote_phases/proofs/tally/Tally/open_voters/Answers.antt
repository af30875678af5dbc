-- Those of the voters that have no row differ.
use Rattle.vote_phases.proofs.VoterLaws.{are_open}
use Rattle.vote_phases.proofs.tally.Tally.open_voters.Goals as goal

pub of-requires : goal.of-requires
of-requires c = rw c.as_slice-2.ensures.value (are_open c.self.inside.voters.items c.in_ok-open.open.items (rw c.as_slice.ensures.value at c.in_ok-open.ensures) c.self.invariant)
