use Rattle.link_use.proofs.SendLaws.{both_err, is_nowhere, is_somewhere, nowhere_made, packet_made_front}
use Rattle.link_use.proofs.sending.Outbox.send_carried.Goals as goal

pub returns-then-packet-eq0-clause-done : goal.returns-then-packet-eq0-clause-done
returns-then-packet-eq0-clause-done g c =
    nowhere_made c.args.self.now.me c.args.self.now.incarnation c.args.self.now.number c.args.packet.now _ (is_nowhere c.args.packet.now.network c.if-packet-eq0.true)

pub returns-clause-broke : goal.returns-clause-broke
returns-clause-broke g c =
    both_err c.send_packet.result
    (λ went spelled. packet_made_front c.args.self.now.me c.args.self.now.incarnation c.args.self.now.number c.args.packet.now _ _ (is_somewhere c.args.packet.now.network c.if-packet-eq0.false) spelled went)
    c.send_packet.ensures.broke c.send_packet.ensures.tested
