-- What the events of a run with relays hand to clients, as its records tell it.
use Rattle.std.specs.Prelude.{◌≡◌, ℕ, List, [], ◌∷◌, Option, Some, None}
use Rattle.rsct_packet.specs.Lists.{reverse_onto}
use Rattle.client_callbacks.specs.Handed.{Handed}
use Rattle.node_state.specs.declared.happened.Happened.{Happened}
use Rattle.node_state.specs.declared.packet.Packet.{Packet}
use Rattle.node_state.specs.Step.{Given}
use Rattle.route_state.specs.Way.{Course, Arrives, GoesOn, Ends}
use Rattle.world_model.specs.declared.event.Event.{Event}
use Rattle.world_model.specs.declared.event.Event.TheVariants as event
use Rattle.world_model.specs.World.{Node, node_at}
use Rattle.world_laws.specs.world_answers.Answers.{Answered}
use Rattle.relay_model.specs.Leaving.{Parcel}
use Rattle.relay_model.specs.Relays.{Relayed, datagram_between, relays_on}
use Rattle.relay_runs.specs.Arrivals.{carried, course_of}
use Rattle.run_hands.specs.Hands.{Logs, HandsNothing, NodeHands, EventHands, Stood}

-- an envelope that goes on or ends hands nothing
abbrev pub CourseHands : Node → ℕ → Packet → Course → List Happened → Logs → Logs → Type 0
CourseHands x b p Arrives rs old new = NodeHands (Some x) b (Given p) rs old new
CourseHands x b p (GoesOn to front) rs old new = HandsNothing rs old new
CourseHands x b p Ends rs old new = HandsNothing rs old new

abbrev pub ArrivalHands : Option Node → Option Parcel → ℕ → List Happened → Logs → Logs → Type 0
ArrivalHands None d b rs old new = HandsNothing rs old new
ArrivalHands (Some x) None b rs old new = HandsNothing rs old new
ArrivalHands (Some x) (Some d) b rs old new = CourseHands x b (carried d) (course_of b x.core.reach d) rs old new

-- what an event that records this hands to clients
abbrev pub RelayHands : Relayed → Event → List Happened → Logs → Logs → Type 0
RelayHands r (event.Deliver a b k) rs old new = ArrivalHands (node_at r.world b) (datagram_between r a b k) b rs old new
RelayHands r e rs old new = EventHands r.world e rs old new

-- what these events, from this world on, hand to clients. After each of them some client stood for each log, also where it is
-- gone at the end
abbrev pub RelayRunHands : {C : Type 0} → (C → List Handed → Type 0) → Relayed → List Answered → Logs → Logs → Type 0
RelayRunHands R r [] old new = new ≡ old
RelayRunHands R r (e ∷ es) old new =
    (rs : List Happened) × (mid : Logs) × ((relays_on r e).world.trace ≡ reverse_onto rs r.world.trace) × RelayHands r e.event rs old mid × Stood R mid × RelayRunHands R (relays_on r e) es mid new
