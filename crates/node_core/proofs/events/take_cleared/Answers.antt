-- Each kind of event.
use Rattle.node_state.specs.Step.{event_rule}
use Rattle.std.proofs.lemmas.Result.{on_ok_weaker}
use Rattle.node_state.specs.Bytes.{packet_of, event_of}
use Rattle.node_core.proofs.StepLaws.{received_does}
use Rattle.node_core.proofs.events.take_cleared.Goals as goal

pub returns-in-Tick-clause-does : goal.returns-in-Tick-clause-does
unfolding event_rule
returns-in-Tick-clause-does g c = rw c.in-Tick.is c.tick.ensures.does

pub returns-in-Ask-clause-does : goal.returns-in-Ask-clause-does
returns-in-Ask-clause-does g c = rw c.in-Ask.is c.obey.ensures.does

pub returns-in-Call-clause-does : goal.returns-in-Call-clause-does
returns-in-Call-clause-does g c = rw c.in-Call.is c.answer.ensures.does

-- A datagram is no call.
pub returns-in-Datagram-clause-does : goal.returns-in-Datagram-clause-does
unfolding event_of
returns-in-Datagram-clause-does g c =
    rw c.in-Datagram.is
    (on_ok_weaker c.receive.result (λ done. received_does _ _ c.args.core.now c.receive.new.core (packet_of c.in-Datagram.bytes.now) done) c.receive.ensures.does)
