-- The datagram is joined and counted.
use Rattle.link_use.proofs.ReceiveLaws.{receives_none, receives_whole}
use Rattle.link_use.proofs.receiving.Receiving.receive.Goals as goal

pub returns-in-None-clause-received : goal.returns-in-None-clause-received
returns-in-None-clause-received g c =
    receives_none c.args.self.now c.take.new.self c.note_datagram.new.self c.in-Datagram.network _ _ _ (rw c.in-None.is at c.in_ok-take-in-Datagram.ensures.ok) (c.note_datagram.ensures c.in-Datagram.network) c.in-Datagram.ensures.1

pub returns-in-Some-clause-received : goal.returns-in-Some-clause-received
returns-in-Some-clause-received g c =
    receives_whole c.args.self.now c.take.new.self c.note_datagram.new.self c.in-Some.message.items c.in-Datagram.network _ _ _ (rw c.in-Some.is at c.in_ok-take-in-Datagram.ensures.ok) (c.note_datagram.ensures c.in-Datagram.network)
    c.in-Datagram.ensures.1
