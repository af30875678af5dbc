-- What is sent leaves all else as it is.
use Rattle.std.proofs.lemmas.Result.{on_ok_weaker}
use Rattle.node_owed.proofs.SendLaws.{kept_to_keeps}
use Rattle.node_owed.proofs.ballots.send_kept.Goals as goal

pub returns-clause-keeps : goal.returns-clause-keeps
returns-clause-keeps c =
    on_ok_weaker c.send_kept_to.result (λ sent. kept_to_keeps c.args.core.now c.send_kept_to.new.core c.args.kept.now c.leader_of-leader.result sent) c.send_kept_to.ensures
