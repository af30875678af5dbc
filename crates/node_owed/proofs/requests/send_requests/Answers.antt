-- The requests that were taken out are back.
use Rattle.std.proofs.lemmas.Result.{on_ok_weaker}
use Rattle.node_owed.proofs.SendLaws.{requests_sent_back, requests_keep}
use Rattle.node_owed.proofs.requests.send_requests.Goals as goal

pub returns-clause-rule : goal.returns-clause-rule
returns-clause-rule c =
    on_ok_weaker c.send_each-sent.result
    (requests_sent_back c.args.core.now c.send_each-sent.new.core c.replace-requests.new.dest c.replace-requests.result c.as_slice.result.now c.replace-requests.ensures.value c.as_slice.ensures)
    c.send_each-sent.ensures

pub returns-clause-keeps : goal.returns-clause-keeps
returns-clause-keeps c = on_ok_weaker c.send_each-sent.result (requests_keep c.args.core.now _) (returns-clause-rule c)
