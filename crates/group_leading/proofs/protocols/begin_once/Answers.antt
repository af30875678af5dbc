-- The entry has the proposal.
use Rattle.group_leading.proofs.protocols.begin_once.Goals as goal

pub returns-clause-does : goal.returns-clause-does
returns-clause-does g c = rw c.in_ok-copy.ensures at c.append_if_fits.ensures.does
