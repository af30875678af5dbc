-- What was told is what is recorded.
use Rattle.std.proofs.Common.{refl}
use Rattle.std.proofs.lemmas.Result.{on_ok_weaker}
use Rattle.entry_delivery.proofs.ReceiveLaws.{receive_one}
use Rattle.node_views.proofs.notes.tell.Goals as goal

pub returns-clause-received : goal.returns-clause-received
returns-clause-received g c =
    on_ok_weaker c.push.result
    (λ pushed. receive_one g.C.Callbacks.stands_for c.args.clients.now.items c.tell_at.new.clients.items _ _ _ refl (rw c.client_place.ensures.value at c.in_ok-tell_at.ensures.stand)) c.push.ensures.ok
