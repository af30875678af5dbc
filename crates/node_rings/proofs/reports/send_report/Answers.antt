-- A report changes the rows and what is sent alone.
use Rattle.std.proofs.lemmas.Result.{on_ok_weaker}
use Rattle.node_groups.proofs.KeepLaws.{keeps_as}
use Rattle.node_rings.proofs.RingLaws.{keeps_report}
use Rattle.node_rings.proofs.reports.send_report.Goals as goal

pub returns-clause-keeps : goal.returns-clause-keeps
returns-clause-keeps c = on_ok_weaker c.send_rows.result (λ e. keeps_as _ _ _ e (keeps_report c.args.core.now _ _ _)) c.send_rows.ensures
