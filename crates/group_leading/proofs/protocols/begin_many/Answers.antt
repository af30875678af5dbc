-- The entry has the proposal.
use Rattle.std.proofs.Common.{ap}
use Rattle.proposal_core.specs.declared.entry.Entry.TheVariants.{Begin}
use Rattle.group_leading.proofs.protocols.begin_many.Goals as goal

pub returns-clause-does : goal.returns-clause-does
returns-clause-does g c = c.open_if_fits.ensures.does c.args.proposal.now (ap Begin c.in_ok-copy.ensures)
