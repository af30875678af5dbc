-- What a run is.
use Rattle.std.specs.Prelude.{List, ◌∷◌, map, flat_map, Option}
use Rattle.node_state.specs.declared.happened.Happened.{Happened}
use Rattle.world_model.specs.declared.event.Event.{Event}

-- a plain event with the records that it makes; no event: every node starts, in mode fixed
pub record Happening : Type 0 where
  pub event : Option Event
  pub records : List Happened

abbrev pub Run : Type 0
Run = List Happening

-- all records of a run, in order
abbrev pub trace_of : Run → List Happened
trace_of run = flat_map (λ h. h.records) run

-- a mark where an event begins, or a record
pub data Moment : Type 0 where
  Begins : (event : Option Event) → Moment
  Recorded : (r : Happened) → Moment

abbrev pub moments_in : Happening → List Moment
moments_in h = Begins h.event ∷ map Recorded h.records

-- the records of a run with a mark where each event begins
abbrev pub moments_of : Run → List Moment
moments_of run = flat_map moments_in run
