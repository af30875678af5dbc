-- What clients were handed in one step and in one event of the nodes that are kept.
use Rattle.std.specs.Prelude.{◌≡◌, ◌++◌, ℕ, List, [], find, Option, Some, None}
use Rattle.client_callbacks.specs.Handed.{Handed}
use Rattle.node_state.specs.declared.happened.Happened.{Happened}
use Rattle.node_state.specs.Handed.{Logged}
use Rattle.node_state.specs.Step.{NodeEvent}
use Rattle.entry_delivery.specs.Received.{WereHanded}
use Rattle.node_core.specs.Node.{NodeView}
use Rattle.run_hands.specs.Hands.{Logs, LogsStand, StepHands, NodeHands, EventHands}
use Rattle.world_model.specs.declared.event.Event.{Event}
use Rattle.world_model.specs.World as world
use Rattle.world_laws.specs.world_answers.Answers.{Items}
use Rattle.net_script.specs.declared.world.World.{World}
use Rattle.net_script.specs.declared.steps.Left.{Left}
use Rattle.net_script.specs.Standing.{NodesStand, Stands}

-- what clients were handed in one step of a node that is kept
abbrev pub StepHears : {C : Type 0} → (C → List Handed → Type 0) → NodeView C → NodeView C → List Happened → NodeEvent → Type 0
StepHears R n o rs ev = (ls : List (List Logged)) → WereHanded R n.clients ls → (new : List (List Logged)) × StepHands n.core ev rs ls new × WereHanded R o.clients new

abbrev pub records_left : Option Left → List Happened
records_left None = []
records_left (Some l) = l.records

-- what clients were handed in an event of the node of a number, if it is up, among the nodes that are kept
abbrev pub NodesHear : {C : Type 0} → (C → List Handed → Type 0) → (C → Option Items) → (Items → Option Items) → List (NodeView C) → List (NodeView C) → ℕ → Option Left → NodeEvent → Type 0
NodesHear R script said ns ms k left ev =
    (xs : List world.Node) → NodesStand script said ns xs → (old : Logs) → LogsStand R ns old → (new : Logs) × NodeHands (find (world.is_node k) xs) k ev (records_left left) old new × LogsStand R ms new

-- where each client stood for what its log told, it stands for that and what was handed to it, of which P holds
abbrev pub HearsAs : {C : Type 0} → (C → List Handed → Type 0) → (C → Option Items) → (Items → Option Items) → World C → List (NodeView C) → List Happened → List Happened → (world.World → List Happened → Logs → Logs → Type 0) → Type 0
HearsAs R script said c ms before after P =
    (w : world.World) → Stands script said c w → (old : Logs) → LogsStand R c.nodes old → (rs : List Happened) × (new : Logs) × (after ≡ before ++ rs) × P w rs old new × LogsStand R ms new

-- an event made the one world into the other: where each client stood for what its log told, it stands for that and
-- what the event hands to it, as its records tell
abbrev pub Hears : {C : Type 0} → (C → List Handed → Type 0) → (C → Option Items) → (Items → Option Items) → World C → World C → List Happened → List Happened → Event → Type 0
Hears R script said c d before after e = HearsAs R script said c d.nodes before after (λ w rs old new. EventHands w e rs old new)
