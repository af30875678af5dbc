-- The leader is kept, and requests are sent.
use Rattle.std.proofs.lemmas.Result.{on_ok_weaker}
use Rattle.node_groups.proofs.KeepLaws.{keeps_then}
use Rattle.group_members.proofs.names.know_leader.Goals as goal

pub returns-clause-keeps : goal.returns-clause-keeps
returns-clause-keeps c =
    on_ok_weaker c.send_requests_of.result (λ sending. keeps_then c.args.core.now c.set_leader.new.core c.send_requests_of.new.core c.in_ok-set_leader.ensures.keeps sending) c.send_requests_of.ensures.keeps
