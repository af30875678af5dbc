-- What happens to a node, in the words of its step.
use Rattle.std.specs.Prelude.{Bool, true, Option, Some, None}
use Rattle.node_state.specs.declared.packet.Packet.{Packet}
use Rattle.node_state.specs.declared.state.Core.{Core}
use Rattle.node_state.specs.HandOn.{Answering}
use Rattle.node_state.specs.Bytes.{event_of}
use Rattle.node_state.specs.Calls.{take_call}
use Rattle.node_state.specs.Step.{Ticks, Asks, Calls, packet_rule}
use Rattle.node_state.specs.Step as step
use Rattle.node_calls.specs.Calling.{is_within_session}
use Rattle.node_core.specs.declared.events.NodeEvent.{NodeEvent}
use Rattle.node_core.specs.declared.events.NodeEvent.TheVariants as event

abbrev pub event_in : NodeEvent → step.NodeEvent
event_in event.Tick = Ticks
event_in (event.Ask mask) = Asks mask
event_in (event.Datagram bytes) = event_of bytes.now
event_in (event.Call c) = Calls c.now

-- a call neither begins nor ends a session
abbrev pub is_taken : NodeEvent → Bool
is_taken (event.Call c) = is_within_session c.now
is_taken _ = true

-- the node when a call is taken, before any row hands something to a client
abbrev pub called : Core → step.NodeEvent → Core
called s Ticks = s
called s (Asks mask) = s
called s (step.Given p) = s
called s step.Garbage = s
called s (Calls c) = take_call s c

-- what a datagram makes before the end of the step: bytes that are no packet make nothing
unfoldable pub datagram_rule : Answering → Core → Option Packet → Core
datagram_rule f s None = s
datagram_rule f s (Some p) = packet_rule f s p
