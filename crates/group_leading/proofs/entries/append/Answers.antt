-- The entry was put, sent and handed on; what follows asks no client.
use Rattle.std.proofs.Common.{sym, ◌∙◌}
use Rattle.std.proofs.lemmas.Result.{on_ok_weaker}
use Rattle.node_groups.proofs.KeepLaws.{keeps_then}
use Rattle.group_leading.proofs.LeadLaws.{sent_state, sent_keeps_as, waiting_keeps, appended_does}
use Rattle.group_leading.proofs.WorkLaws.{work_kept}
use Rattle.group_leading.proofs.entries.append.Goals as goal

pub hand-requires-clause-work : goal.hand-requires-clause-work
hand-requires-clause-work g c =
    work_kept c.args.core.now c.send_entry_to_others.new.core c.args.clients.now.items
    (keeps_then c.args.core.now c.put_at_end.new.core c.send_entry_to_others.new.core c.in_ok-placed.ensures.keeps (sent_keeps_as _ _ _ _ c.in_ok-send_entry_to_others.ensures)) c.requires.work

pub hand-requires-clause-state : goal.hand-requires-clause-state
hand-requires-clause-state g c = c.in_ok-placed.ensures.after ∙ sym (sent_state _ _ _ _ c.args.group.now c.in_ok-send_entry_to_others.ensures)

pub returns-clause-work : goal.returns-clause-work
returns-clause-work g c =
    on_ok_weaker c.new_members_wait.result
    (λ waiting. work_kept c.hand.new.core c.new_members_wait.new.core c.hand.new.clients.items
    (waiting_keeps _ c.forget_least.new.core _ _ _ _ c.in_ok-forget_least.ensures.keeps waiting) c.in_ok-hand.ensures.work)
    c.new_members_wait.ensures

pub returns-clause-does : goal.returns-clause-does
returns-clause-does g c =
    on_ok_weaker c.new_members_wait.result
    (λ waiting. appended_does _ _ c.args.core.now c.put_at_end.new.core c.send_entry_to_others.new.core c.hand.new.core c.forget_least.new.core c.new_members_wait.new.core c.args.group.now c.args.entry.now _ _ _
    c.in_ok-placed.ensures.rule c.in_ok-placed.ensures.keeps c.in_ok-placed.ensures.place c.in_ok-placed.ensures.before c.in_ok-placed.ensures.after c.in_ok-send_entry_to_others.ensures
    (rw (← (rw c.bytes.ensures.value at c.leader_of-leader.ensures)) c.in_ok-hand.ensures.does) c.in_ok-forget_least.ensures.rule c.in_ok-forget_least.ensures.keeps waiting)
    c.new_members_wait.ensures
