use Rattle.std.proofs.Common.{◌∙◌}
use Rattle.link_use.proofs.SendLaws.{on_err, packets_next, packets_front, packets_done, packets_number, count_next, count_done}
use Rattle.link_use.proofs.sending.Outbox.send_packets.Goals as goal

pub returns-in_err-count-clause-broke : goal.returns-in_err-count-clause-broke
returns-in_err-count-clause-broke g c =
    on_err c.from_residual.result
    (packets_front c.loop-packet.self c.args.self.now c.loop-packet.packet-index c.packet-item.result c.args.packets.now _ _ _ c.loop-packet-test.true c.packet-item.is c.loop-packet.invariant.0 c.in_err-count.ensures.broke)

pub loop-packet-preserved : goal.loop-packet-preserved
loop-packet-preserved g c = (
  packets_next c.loop-packet.self c.send_carried.new.self c.args.self.now c.loop-packet.packet-index c.packet-item.result c.args.packets.now _ _ _ c.loop-packet-test.true c.packet-item.is c.in_ok-count.ensures.number c.loop-packet.invariant.0 c.in_ok-count.ensures.done,
  c.in_ok-count.ensures.same ∙ c.loop-packet.invariant.1,
  count_next c.loop-packet.sent c.in_ok-count.count c.loop-packet.self c.send_carried.new.self c.args.self.now c.loop-packet.packet-index c.packet-item.result c.args.packets.now _ _ c.saturating_add-sent.result c.loop-packet-test.true c.packet-item.is
      c.in_ok-count.ensures.number c.loop-packet.invariant.0 c.in_ok-count.ensures.count c.saturating_add-sent.ensures c.loop-packet.invariant.2,
)

pub returns-clause-done : goal.returns-clause-done
returns-clause-done g c = packets_done c.loop-packet.self c.args.self.now c.loop-packet.packet-index c.args.packets.now _ _ c.loop-packet-test.false c.loop-packet.invariant.0

pub returns-clause-number : goal.returns-clause-number
returns-clause-number g c = packets_number c.loop-packet.self c.args.self.now c.loop-packet.packet-index c.args.packets.now _ _ c.loop-packet-test.false c.loop-packet.invariant.0

pub returns-clause-count : goal.returns-clause-count
returns-clause-count g c = count_done c.loop-packet.sent c.loop-packet.self c.args.self.now c.loop-packet.packet-index c.args.packets.now c.loop-packet-test.false c.loop-packet.invariant.2
