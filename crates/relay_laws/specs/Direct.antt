-- The run of the direct world that a run with relays is, and that it is safe.
use Rattle.std.specs.Prelude.{ℕ, ◌≡◌, Bool, true, false, List, [], ◌∷◌, ◌++◌, Some}
use Rattle.node_state.specs.declared.config.Config.{Config}
use Rattle.node_state.specs.declared.happened.Happened.{Happened}
use Rattle.node_state.specs.declared.packet.Packet.{Packet}
use Rattle.world_model.specs.declared.event.Event.{Event}
use Rattle.world_model.specs.declared.event.Event.TheVariants as event
use Rattle.world_model.specs.World.{kth_between}
use Rattle.world_laws.specs.world_answers.Answers.{Answered, events_in}
use Rattle.world_safety.specs.Events.{AllMayHappen}
use Rattle.world_safety.specs.Scripts.{IsSafe}
use Rattle.relay_model.specs.Leaving.{Parcel}
use Rattle.relay_model.specs.Relays.{Relayed, datagram_between, relayed_after, relayed_records}
use Rattle.relay_laws.specs.Carrying.{Brings, IsNotGiven}

abbrev pub is_delivery : Event → Bool
is_delivery (event.Deliver a b k) = true
is_delivery _ = false

-- What an event is in the direct world. What is no delivery is itself. A delivery whose datagram brings the node a packet is that
-- of this packet: by its number among those that its sender's steps sent to the node, whoever carried it. Any other is none.
pub data IsDirectOf (r : Relayed) (e : Answered) : List Answered → Type 0 where
  Itself : is_delivery e.event ≡ false → IsDirectOf r e (e ∷ [])
  Hands : (a b k number : ℕ) (d : Parcel) (q : Packet) → e.event ≡ event.Deliver a b k → datagram_between r a b k ≡ Some d → Brings r.world a b d q → kth_between r.world q.from b number ≡ Some q → IsDirectOf r e (record { event = event.Deliver q.from b number; answers = e.answers } ∷ [])
  Moves : (a b k : ℕ) → e.event ≡ event.Deliver a b k → IsNotGiven r a b k → IsDirectOf r e []

-- of each event, in order
pub data AreDirect (c : Config) : List Answered → List Answered → Type 0 where
  NoEvents : AreDirect c [] []
  OneMore : (es ds : List Answered) (e : Answered) (more : List Answered) → AreDirect c es ds → IsDirectOf (relayed_after c es) e more → AreDirect c (es ++ e ∷ []) (ds ++ more)

-- These are the records of the run with relays of these events: they are those of a safe run of the direct world, event by event.
abbrev pub IsSafeRelayed : Config → List Answered → List Happened → Type 0
IsSafeRelayed c es rs = (ds : List Answered) × AreDirect c es ds × IsSafe c ds rs

-- whatever the clients answer, and whatever is delivered, in whatever order
abbrev pub RelayedRunsAreSafe : Type 0
RelayedRunsAreSafe = (c : Config) (es : List Answered) → AllMayHappen c (events_in es) → IsSafeRelayed c es (relayed_records c es)
