-- Every run of the world is safe, whatever its clients answer.
use Rattle.std.specs.Prelude.{◌≡◌, List}
use Rattle.node_state.specs.declared.config.Config.{Config}
use Rattle.world_model.specs.Run.{trace_of}
use Rattle.run_safety.specs.Past.{history_of}
use Rattle.run_safety.specs.SafeLists.{OneEntry}
use Rattle.run_safety.specs.SafeGroups.{SafeGroups}
use Rattle.step_refinement.specs.Tied.{Scene, opening_of}
use Rattle.step_refinement.specs.Runs.{Reached}
use Rattle.entry_laws.specs.late_rows.Runs.{TicksAreNoted}
use Rattle.entry_laws.specs.source_order.Meant.{DeliveriesAreNoted}
use Rattle.row_laws.specs.failed_rows.Scenes.{Played}
use Rattle.provider_laws.specs.leaving.Scenes.{Recounted}
use Rattle.world_laws.specs.world_answers.Answers.{Answered, events_in, answered_after, answered_records}
use Rattle.world_safety.specs.Events.{run_of_events, AllMayHappen}
use Rattle.world_safety.specs.Mirrors.{Mirrors}

-- the run of events has the records of the world, in order
abbrev pub RunHasTheRecords : Type 0
RunHasTheRecords = (c : Config) (es : List Answered) → trace_of (run_of_events c es) ≡ answered_records c es

-- what starts, stops and steps make comes to the world, by the same history, in which each tick, each delivery and each call is noted, and nothing else
-- as a call
abbrev pub EveryRunIsReached : Type 0
EveryRunIsReached =
    (c : Config) (es : List Answered) → AllMayHappen c (events_in es) → (s : Scene) × (k : Reached c s) × TicksAreNoted c s k × Played c s × Mirrors c (answered_after c es) s × (s.before ≡ history_of (run_of_events c es)) × Recounted c s × DeliveriesAreNoted c s k

-- what each group sees of the run is safe, and each view and group has one list
abbrev pub EveryRunIsSafe : Type 0
EveryRunIsSafe =
    (c : Config) (es : List Answered) → AllMayHappen c (events_in es) → SafeGroups (opening_of c) (history_of (run_of_events c es)) × OneEntry (history_of (run_of_events c es))
