-- The entry was put, and then handed on.
use Rattle.std.proofs.lemmas.Result.{on_ok_weaker}
use Rattle.group_leading.proofs.LeadLaws.{put_and_handed_does}
use Rattle.group_leading.proofs.WorkLaws.{work_kept}
use Rattle.group_leading.proofs.entries.put_and_hand.Goals as goal

pub hand-requires-clause-work : goal.hand-requires-clause-work
hand-requires-clause-work g c = work_kept c.args.core.now c.put_at_end.new.core c.args.clients.now.items c.in_ok-placed.ensures.keeps c.requires.work

pub returns-clause-does : goal.returns-clause-does
returns-clause-does g c =
    on_ok_weaker c.hand.result
    (λ handing. put_and_handed_does _ _ c.args.core.now c.put_at_end.new.core c.hand.new.core c.args.to c.args.group.now c.args.entry.now _ _ _ c.in_ok-placed.ensures.rule c.in_ok-placed.ensures.keeps
    c.in_ok-placed.ensures.place c.in_ok-placed.ensures.before c.in_ok-placed.ensures.after handing)
    c.hand.ensures.does
