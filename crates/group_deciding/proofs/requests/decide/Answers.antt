-- A join waits or is refused.
use Rattle.std.proofs.lemmas.Result.{on_ok_weaker}
use Rattle.entry_delivery.proofs.DoingLaws.{receive_nothing}
use Rattle.group_leading.proofs.WorkLaws.{on_ok_both}
use Rattle.group_deciding.proofs.DecidingLaws.{join_does, change_does}
use Rattle.group_deciding.proofs.requests.decide.Goals as goal

pub returns-in-Join-clause-does : goal.returns-in-Join-clause-does
returns-in-Join-clause-does g c =
    on_ok_weaker c.decide_join.result
    (join_does _ _ (receive_nothing _ _) c.args.core.now c.decide_join.new.core c.args.asked.now.group c.args.asked.now.provider c.args.asked.now.request c.args.asked.now.phases c.args.asked.now.proposal c.in-Join.ps c.in-Join.attrs c.in-Join.source_len c.in-Join.is)
    (on_ok_both _ _ c.decide_join.result c.decide_join.ensures.rule c.decide_join.ensures.keeps)

pub returns-in_default : goal.returns-in_default
returns-in_default g c =
    record {
      work = c.decide_change.ensures.work;
      scripts = c.decide_change.ensures.scripts;
      does = on_ok_weaker c.decide_change.result (change_does _ _ c.args.core.now c.decide_change.new.core c.args.asked.now.group c.args.asked.now.provider c.args.asked.now.request c.args.asked.now.phases c.args.asked.now.proposal c.in_default.not-Join) c.decide_change.ensures.does;
    }
