use Rattle.std.proofs.Common.{◌≡◌, drop}
use Rattle.link_use.proofs.SendLaws.{PacketsTo, CountTo}
use Rattle.link_use.proofs.sending.Outbox.send_packets.Given as goal

abbrev pub invariant-loop-packet : goal.invariant-loop-packet
invariant-loop-packet g l =
    PacketsTo l.self l.initial.self (drop l.packet-index l.packets) l.packets (g.O.Outside.told l.initial.outside) (g.O.Outside.told l.outside) × (l.self.me ≡ l.initial.self.me) × CountTo l.sent l.self l.initial.self (drop l.packet-index l.packets) l.packets
