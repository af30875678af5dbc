-- The rows of groups stay as they are.
use Rattle.std.proofs.lemmas.Result.{on_ok_weaker}
use Rattle.group_leading.proofs.LeadLaws.{handed_work}
use Rattle.group_leading.proofs.WorkLaws.{on_ok_both}
use Rattle.group_leading.proofs.entries.hand.Goals as goal

pub returns-clause-work : goal.returns-clause-work
returns-clause-work g c =
    on_ok_weaker c.hand_on.result
    (λ handing. handed_work _ _ c.args.core.now c.hand_on.new.core c.args.clients.now.items c.hand_on.new.clients.items c.args.to c.args.group.now c.args.placed.now.place c.args.placed.now.before c.args.placed.now.after c.args.entry.now c.requires.work handing)
    (on_ok_both _ _ c.hand_on.result c.hand_on.ensures.ready c.hand_on.ensures.does)
