-- The decision is kept, and then the proposal begins.
use Rattle.std.proofs.lemmas.Result.{on_ok_weaker}
use Rattle.group_deciding.proofs.DecidingLaws.{granted}
use Rattle.group_deciding.proofs.changes.grant.Goals as goal

pub returns-clause-does : goal.returns-clause-does
returns-clause-does g c =
    on_ok_weaker c.begin.result
    (λ done. granted _ _ c.args.core.now c.keep_decision.new.core _ c.args.asked.now.group c.args.asked.now.provider c.args.asked.now.request c.args.asked.now.proposal c.args.asked.now.phases c.in_ok-keep_decision.ensures.rule c.in_ok-keep_decision.ensures.keeps done)
    c.begin.ensures.does
