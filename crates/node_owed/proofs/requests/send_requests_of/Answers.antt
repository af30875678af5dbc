-- The requests that were taken out are back.
use Rattle.std.proofs.lemmas.Result.{on_ok_weaker}
use Rattle.node_state.specs.Sending.{send_request}
use Rattle.node_state.specs.Following.{requests_of}
use Rattle.node_owed.proofs.SendLaws.{requests_of_back, request_sends, each_keeps}
use Rattle.node_owed.proofs.requests.send_requests_of.Goals as goal

pub returns-clause-rule : goal.returns-clause-rule
returns-clause-rule c =
    on_ok_weaker c.send_each_of-sent.result
    (requests_of_back c.args.core.now c.send_each_of-sent.new.core c.args.group.now c.replace-requests.new.dest c.replace-requests.result c.as_slice.result.now c.replace-requests.ensures.value c.as_slice.ensures)
    c.send_each_of-sent.ensures

pub returns-clause-keeps : goal.returns-clause-keeps
returns-clause-keeps c = on_ok_weaker c.send_each_of-sent.result (each_keeps send_request request_sends c.args.core.now _ (requests_of c.args.core.now c.args.group.now)) (returns-clause-rule c)
