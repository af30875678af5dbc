-- What is owed is sent, part by part.
use Rattle.std.proofs.lemmas.Result.{on_ok_weaker}
use Rattle.node_groups.proofs.KeepLaws.{keeps_then}
use Rattle.node_owed.proofs.losses.tick_owed.Goals as goal

pub returns-clause-keeps : goal.returns-clause-keeps
returns-clause-keeps c =
    on_ok_weaker c.send_votes_again.result
    (λ sending. keeps_then c.args.core.now c.tell_lost.new.core c.send_votes_again.new.core
    (keeps_then c.args.core.now c.send_requests.new.core c.tell_lost.new.core c.in_ok-send_requests.ensures.keeps c.in_ok-tell_lost.ensures.keeps) sending)
    c.send_votes_again.ensures.keeps
