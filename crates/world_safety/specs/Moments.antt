-- What holds of the nodes of a world at each moment of a run: where their lists start, and how much their next step sends.
use Rattle.std.specs.Prelude.{ℕ, ◌+◌, ◌*◌, ◌≤◌, ◌≡◌, List, ◌++◌, length, Some}
use Rattle.rsct_packet.specs.Search.{Has}
use Rattle.node_state.specs.declared.config.Config.{Config}
use Rattle.node_state.specs.declared.state.Core.{Core}
use Rattle.node_state.specs.HandOn.{Answering}
use Rattle.node_state.specs.Step.{NodeEvent, Given, stepped}
use Rattle.world_model.specs.World.{World}
use Rattle.run_safety.specs.Past.{History, history_of}
use Rattle.run_laws.specs.tails.Tails.{TailsHeld}
use Rattle.send_laws.specs.Bound.{puts_of, led_count, owed_count}
use Rattle.world_laws.specs.world_answers.Answers.{Answered, answered_after}
use Rattle.world_safety.specs.Events.{run_of_events}
use Rattle.world_safety.specs.Mirrors.{core_at}

-- it holds of each front of the events
abbrev pub AfterEach : (List Answered → Type 0) → List Answered → Type 0
AfterEach P es = (front rest : List Answered) → es ≡ front ++ rest → P front

-- of the world and the history after each front
abbrev pub AtEachMoment : (World → History → Type 0) → Config → List Answered → Type 0
AtEachMoment P c es = AfterEach (λ front. P (answered_after c front) (history_of (run_of_events c front))) es

-- at each node that is up, each member of its view has put what its lists lack at their front
abbrev pub AllTailsHeld : World → History → Type 0
AllTailsHeld w h = (n : ℕ) (s : Core) → core_at w.nodes n ≡ Some s → TailsHeld s h

-- an event that can come to a node: a packet that it is given was sent
abbrev pub CanCome : World → NodeEvent → Type 0
CanCome w (Given p) = Has p w.sent
CanCome w _ = Unit {0}

-- whatever comes next to a node that is up, and whatever its clients answer: its step sends at most 600 packets, 600 for each group
-- that it leads, 100 for each entry that it puts, and two for each request, ballot and provider that it keeps
abbrev pub StepsSendFew : World → History → Type 0
StepsSendFew w h =
    (n : ℕ) (s : Core) → core_at w.nodes n ≡ Some s → (e : NodeEvent) → CanCome w e → (f : Answering) →
    length (stepped f s e).sends ≤ 600 + 600 * led_count s + 100 * puts_of (stepped f s e).records + 2 * owed_count s
