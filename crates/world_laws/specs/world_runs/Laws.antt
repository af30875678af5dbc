-- The laws of worlds and of limited runs.
use Rattle.std.specs.Prelude.{◌≡◌, ℕ, List}
use Rattle.rsct_packet.specs.Lists.{reverse_onto}
use Rattle.node_state.specs.declared.happened.Happened.{Happened}
use Rattle.world_model.specs.declared.event.Event.{Event}
use Rattle.world_model.specs.World.{World, happens}
use Rattle.world_model.specs.Kept.{runs_from}
use Rattle.world_laws.specs.world_runs.Runs.{SameRun}

-- what happens in a world does not depend on what waits there
abbrev pub QueueIsNotRead : Type 0
QueueIsNotRead = (w v : World) (e : Event) → SameRun w v → SameRun (happens w e) (happens v e)

-- a limited run only adds records
abbrev pub RunsGrow : Type 0
RunsGrow = (limit sum : ℕ) (w : World) (es : List Event) → (rs : List Happened) × ((runs_from limit sum w es).world.trace ≡ reverse_onto rs w.trace)
