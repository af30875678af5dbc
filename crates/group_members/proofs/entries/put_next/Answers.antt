-- Put and handed on, and then acknowledged.
use Rattle.std.proofs.lemmas.Result.{on_ok_weaker}
use Rattle.group_leading.proofs.RowLaws.{work_row}
use Rattle.group_members.proofs.EntryLaws.{followed_keeps, next_does}
use Rattle.group_members.proofs.entries.put_next.Goals as goal

pub returns-clause-work : goal.returns-clause-work
returns-clause-work g c =
    on_ok_weaker c.follow.result
    (work_row c.put_and_hand.new.core c.follow.new.core _ c.put_and_hand.new.clients.items c.in_ok-put_and_hand.ensures.work (followed_keeps c.args.from c.args.placed.now.group.now c.args.placed.now.stable c.put_and_hand.new.core))
    c.follow.ensures

pub returns-clause-does : goal.returns-clause-does
returns-clause-does g c =
    on_ok_weaker c.follow.result
    (next_does _ _ c.args.core.now c.put_and_hand.new.core c.follow.new.core c.args.from c.args.placed.now.group.now c.args.placed.now.stable c.args.placed.now.entry.now c.in_ok-put_and_hand.ensures.does)
    c.follow.ensures
