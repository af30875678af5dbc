-- The node leads, and decides.
use Rattle.std.proofs.lemmas.Result.{on_ok_weaker}
use Rattle.group_requests.proofs.RequestLaws.{new_does}
use Rattle.group_requests.proofs.requests.decide_new.Goals as goal

pub returns-clause-does : goal.returns-clause-does
returns-clause-does g c =
    on_ok_weaker c.decide.result
    (new_does _ _ c.args.core.now c.set_leader.new.core c.decide.new.core c.args.asked.now.group c.args.asked.now.provider c.args.asked.now.request c.args.asked.now.phases c.args.asked.now.proposal c.in_ok-set_leader.ensures.rule)
    c.decide.ensures.does
