-- The rings tick, and the rows are sent.
use Rattle.std.proofs.lemmas.Result.{on_ok_weaker}
use Rattle.node_groups.proofs.KeepLaws.{keeps_then}
use Rattle.node_rings.proofs.tick.tick_all.Goals as goal

pub returns-clause-keeps : goal.returns-clause-keeps
returns-clause-keeps c =
    on_ok_weaker c.send_report.result (λ sending. keeps_then c.args.core.now c.tick_each.new.core c.send_report.new.core c.in_ok-tick_each.ensures.keeps sending) c.send_report.ensures.keeps
