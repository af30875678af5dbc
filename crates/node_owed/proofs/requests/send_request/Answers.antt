-- What is sent leaves all else as it is.
use Rattle.std.proofs.lemmas.Result.{on_ok_weaker}
use Rattle.node_owed.proofs.SendLaws.{to_keeps}
use Rattle.node_owed.proofs.requests.send_request.Goals as goal

pub returns-clause-keeps : goal.returns-clause-keeps
returns-clause-keeps c =
    on_ok_weaker c.send_request_to.result (λ sent. to_keeps c.args.core.now c.send_request_to.new.core c.args.request.now c.leader_of-leader.result sent) c.send_request_to.ensures
