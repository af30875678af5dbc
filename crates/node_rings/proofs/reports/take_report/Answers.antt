-- Another table of rows.
use Rattle.node_rings.proofs.RingLaws.{keeps_reach}
use Rattle.node_rings.proofs.reports.take_report.Goals as goal

pub returns-clause-keeps : goal.returns-clause-keeps
returns-clause-keeps c = keeps_reach c.args.core.now _
