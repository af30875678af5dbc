-- How limited runs, records and plays go on, part by part.
use Rattle.std.specs.Prelude.{◌≡◌, ℕ, List, [], ◌++◌, Some}
use Rattle.rsct_packet.specs.Lists.{reverse_onto}
use Rattle.node_state.specs.declared.config.Config.{Config}
use Rattle.node_state.specs.declared.happened.Happened.{Happened}
use Rattle.world_model.specs.declared.event.Event.{Event}
use Rattle.world_model.specs.World.{World, world_new}
use Rattle.world_model.specs.Play.{Played}
use Rattle.world_model.specs.Kept.{runs_from}

-- events lead on from one world to another: whatever comes after them, a limited run goes on from there
abbrev pub Runs : ℕ → ℕ → World → List Event → ℕ → World → Type 0
Runs limit sum w es total v = (fs : List Event) → runs_from limit sum w (es ++ fs) ≡ runs_from limit total v fs

-- among these events one passes the limit, with this sum: a limited run ends just before it
abbrev pub Ends : ℕ → ℕ → World → List Event → ℕ → World → Type 0
Ends limit sum w es n v = (fs : List Event) → runs_from limit sum w (es ++ fs) ≡ record { world = v; passed = Some n }

-- the same world, but for what waits
abbrev pub SameRun : World → World → Type 0
SameRun w v = v ≡ record w { queue = v.queue }

-- the trace grew by these records, in order
abbrev pub Recorded : World → World → List Happened → Type 0
Recorded w v rs = v.trace ≡ reverse_onto rs w.trace

-- the events of a play grew by these, in order
abbrev pub Happens : Played → Played → List Event → Type 0
Happens p q es = q.events ≡ reverse_onto es p.events

-- whatever comes after these events, the records of a limited run begin with these
abbrev pub Tells : ℕ → ℕ → World → List Event → List Happened → Type 0
Tells limit sum w es rs = (fs : List Event) → (more : List Happened) × ((runs_from limit sum w (es ++ fs)).world.trace ≡ reverse_onto more (reverse_onto rs w.trace))

-- a play before its first line
abbrev pub unplayed : Config → Played
unplayed c = record { world = world_new c; cuts = []; events = [] }
