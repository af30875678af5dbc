-- Marked, failed, and then it waits.
use Rattle.std.proofs.lemmas.Result.{on_ok_weaker}
use Rattle.group_leading.proofs.RowLaws.{work_row}
use Rattle.group_requests.proofs.GoneLaws.{gone_waits_keeps, present_does}
use Rattle.group_requests.proofs.goodbyes.leave.Goals as goal

pub returns-clause-work : goal.returns-clause-work
returns-clause-work g c =
    on_ok_weaker c.wait_gone.result
    (work_row c.fail_vote.new.core c.wait_gone.new.core _ c.fail_vote.new.clients.items c.in_ok-fail_vote.ensures.work (gone_waits_keeps c.fail_vote.new.core c.args.group.now c.args.provider))
    c.wait_gone.ensures

pub returns-clause-does : goal.returns-clause-does
returns-clause-does g c =
    on_ok_weaker c.wait_gone.result
    (present_does _ _ c.args.core.now c.mark_gone.new.core c.fail_vote.new.core c.wait_gone.new.core c.args.group.now c.args.provider c.in_ok-mark_gone.ensures.rule c.in_ok-fail_vote.ensures.does)
    c.wait_gone.ensures
