use Rattle.std.proofs.Common.{ap}
use Rattle.net_script.proofs.FlowLaws.{packet_given, packet_lost}
use Rattle.net_script.proofs.flow.pass.Goals as goal

pub returns-then-is_given-clause-outcome : goal.returns-then-is_given-clause-outcome
returns-then-is_given-clause-outcome g c = packet_given c.play_event.result c.args.kinds _ _ c.args.stage.now c.play_event.new.stage c.args.waiting _ c.is_given.ensures c.if-is_given.true c.play_event.ensures.outcome

pub returns-else-is_given-clause-outcome : goal.returns-else-is_given-clause-outcome
returns-else-is_given-clause-outcome g c =
    packet_lost tt c.args.kinds _ c.args.stage.now _ c.args.waiting _ c.is_given.ensures c.if-is_given.false (ap (λ ps. record (c.args.stage.now) { world = record (c.args.stage.now.world) { packets = ps } }) c.skip_first.ensures)
