-- The ballots that were taken out are back.
use Rattle.std.proofs.lemmas.Result.{on_ok_weaker}
use Rattle.node_owed.proofs.SendLaws.{votes_sent_back, votes_keep}
use Rattle.node_owed.proofs.ballots.send_votes_again.Goals as goal

pub returns-clause-rule : goal.returns-clause-rule
returns-clause-rule c =
    on_ok_weaker c.send_each_again-sent.result
    (votes_sent_back c.args.core.now c.send_each_again-sent.new.core c.replace-kept.new.dest c.replace-kept.result c.as_slice.result.now c.replace-kept.ensures.value c.as_slice.ensures)
    c.send_each_again-sent.ensures

pub returns-clause-keeps : goal.returns-clause-keeps
returns-clause-keeps c = on_ok_weaker c.send_each_again-sent.result (votes_keep c.args.core.now _) (returns-clause-rule c)
