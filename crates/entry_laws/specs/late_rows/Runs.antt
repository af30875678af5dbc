-- Runs whose ticks are noted, and what holds of who is late in them.
use Rattle.std.specs.Prelude.{ℕ, ◌≡◌}
use Rattle.node_state.specs.declared.config.Config.{Config}
use Rattle.node_state.specs.Step.{NodeEvent, Ticks}
use Rattle.world_model.specs.declared.event.Event.{Event}
use Rattle.world_model.specs.declared.event.Event.TheVariants as event
use Rattle.step_refinement.specs.Tied.{Scene}
use Rattle.step_refinement.specs.Runs.{Reached, Nothing, AllStart, Starts, Stops, Steps, Notes}
use Rattle.entry_laws.specs.late_rows.Late.{LateHadTime}
use Rattle.entry_laws.specs.late_rows.Announced.{LateWereAnnounced}

-- a node's tick is noted as that
abbrev pub NotedAs : ℕ → NodeEvent → Event → Type 0
NotedAs n Ticks v = v ≡ event.Tick n
NotedAs n _ v = Unit {0}

-- each tick of the run is
abbrev pub TicksAreNoted : (c : Config) (w : Scene) → Reached c w → Type 0
TicksAreNoted c _ Nothing = Unit {0}
TicksAreNoted c _ (AllStart fixed) = Unit {0}
TicksAreNoted c _ (Starts w n e k free real down) = TicksAreNoted c w k
TicksAreNoted c _ (Stops w n e s k up) = TicksAreNoted c w k
TicksAreNoted c _ (Steps w n f s e v k up arises) = NotedAs n e v × TicksAreNoted c w k
TicksAreNoted c _ (Notes w e rs k notes) = TicksAreNoted c w k

-- in every scene that events lead to, whose ticks are noted
abbrev pub WhoIsLateHadTime : Type 0
WhoIsLateHadTime = (c : Config) (w : Scene) (k : Reached c w) → TicksAreNoted c w k → LateHadTime w.before

abbrev pub WhoIsLateWasAnnounced : Type 0
WhoIsLateWasAnnounced = (c : Config) (w : Scene) (k : Reached c w) → TicksAreNoted c w k → LateWereAnnounced w.config w.before
