-- Who is not live has no client that is told.
use Rattle.std.proofs.Common.{refl}
use Rattle.entry_delivery.proofs.ReceiveLaws.{receive_one}
use Rattle.node_views.proofs.ToldLaws.{untold_receive}
use Rattle.node_views.proofs.dissolved.tell_dissolved.Goals as goal

pub returns-then-not-takes_telling-clause-received : goal.returns-then-not-takes_telling-clause-received
returns-then-not-takes_telling-clause-received g c = untold_receive _ _ c.args.sessions.now c.args.provider c.args.request c.takes_telling.result c.takes_telling.ensures c.if-not-takes_telling.true

pub returns-clause-received : goal.returns-clause-received
returns-clause-received g c = receive_one g.C.Callbacks.stands_for c.args.clients.now.items c.tell_at.new.clients.items _ _ _ refl (rw c.place_of.ensures.value at c.in_ok-tell_at.ensures.stand)
