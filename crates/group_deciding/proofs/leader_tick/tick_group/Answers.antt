-- The tally, and then the entries.
use Rattle.group_leading.proofs.WorkLaws.{work_kept}
use Rattle.group_deciding.proofs.TickLaws.{group_does}
use Rattle.group_deciding.proofs.leader_tick.tick_group.Goals as goal

pub returns-clause-does : goal.returns-clause-does
returns-clause-does g c =
    group_does _ _ c.args.core.now c.tick_phase.new.core c.send_to_others.new.core c.args.group.now c.in_ok-tick_phase.ensures.does c.in_ok-send_to_others.ensures.rule c.in_ok-send_to_others.ensures.keeps

pub returns-clause-work : goal.returns-clause-work
returns-clause-work g c = work_kept _ _ _ c.in_ok-send_to_others.ensures.keeps c.in_ok-tick_phase.ensures.work
