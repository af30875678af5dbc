-- What was handed, told and sent, one after another.
use Rattle.std.proofs.Common.{◌∙◌}
use Rattle.std.proofs.lemmas.Result.{on_ok_weaker}
use Rattle.entry_delivery.proofs.DoingLaws.{receive_then}
use Rattle.entry_delivery.proofs.HandLaws.{handed_does, handed_ready}
use Rattle.entry_delivery.proofs.delivery.hand_on.Goals as goal

pub returns-clause-does : goal.returns-clause-does
returns-clause-does g c =
    on_ok_weaker c.send_casts.result
    (λ sending. handed_does _ _ _ _ (receive_then _ _ _ _) c.args.core.now c.hand.new.core c.note.new.core c.send_casts.new.core c.args.entry.now.view c.args.to c.args.entry.now.group.now c.args.entry.now.place c.args.before.now c.args.entry.now.after.now c.args.entry.now.entry.now
    c.in_ok-hand.ensures.handed.0 c.hand.new.casts c.requires.view c.in_ok-hand.ensures.same c.in_ok-hand.ensures.handed.1 c.in_ok-hand.ensures.handed.2 c.requires.state c.in_ok-hand.ensures.handed.3 c.in_ok-hand.ensures.received c.in_ok-note.ensures.core c.in_ok-note.ensures.received sending)
    (rw c.as_slice.ensures at c.send_casts.ensures)

pub returns-clause-ready : goal.returns-clause-ready
returns-clause-ready g c =
    on_ok_weaker c.send_casts.result
    (λ sending. handed_ready c.args.core.now c.hand.new.core c.note.new.core c.send_casts.new.core c.args.to c.args.entry.now.group.now c.args.entry.now.place c.args.before.now c.args.entry.now.after.now c.hand.new.casts
    c.args.clients.now.items c.note.new.clients.items c.in_ok-hand.ensures.same c.in_ok-note.ensures.core sending (c.in_ok-note.ensures.length ∙ c.in_ok-hand.ensures.length) c.requires.ready)
    (rw c.as_slice.ensures at c.send_casts.ensures)
