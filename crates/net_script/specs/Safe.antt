-- The safe runs that worlds as they are kept stand at the end of.
use Rattle.std.specs.Prelude.{◌≡◌, List, [], ◌∷◌, ◌++◌, Option}
use Rattle.node_state.specs.declared.config.Config.{Config}
use Rattle.node_state.specs.declared.happened.Happened.{Happened}
use Rattle.node_state.specs.HandOn.{Answering}
use Rattle.world_model.specs.declared.event.Event.{Event}
use Rattle.world_model.specs.World.{world_after, records_of}
use Rattle.world_model.specs.World as world
use Rattle.world_laws.specs.world_runs.Runs.{SameRun}
use Rattle.world_laws.specs.world_answers.Answers.{Answered, events_in, answered_after, answered_records}
pub use Rattle.world_safety.specs.Events.{MayHappen, AllMayHappen}
pub use Rattle.world_safety.specs.Scripts.{IsSafe, IsSafeRun, ScriptIsSafe, KeptRunIsSafe}
pub use Rattle.world_safety.specs.Plays.{LineMay, LinesMay, MayPlay}
use Rattle.net_script.specs.declared.world.World.{World}
use Rattle.world_laws.specs.world_answers.Answers.{Items, AllWorded}
use Rattle.net_script.specs.Standing.{Stands}

-- the world stands for this one, but for what waits there
pub record StandsAs {C : Type 0} (script : C → Option Items) (said : Items → Option Items) (d : World C) (v : world.World) : Type 0 where
  pub world : world.World
  pub stands : Stands script said d world
  pub same : SameRun v world

-- the world stands for this one, and the run that leads there is safe, whose records are the earlier ones and those
-- that came behind what was there before
pub record SafeOn {C : Type 0} (script : C → Option Items) (said : Items → Option Items) (d : World C) (v : world.World) (IsSafe : List Happened → Type 0) (earlier before after : List Happened) : Type 0 where
  pub stands : StandsAs script said d v
  pub records : List Happened
  pub out : after ≡ before ++ records
  pub safe : IsSafe (earlier ++ records)

-- where the world stood after events that may happen, with any answers, it stands after these and one more that may,
-- with some answers, and their run is safe
abbrev pub AnswersSafely : {C : Type 0} → (C → Option Items) → (Items → Option Items) → World C → World C → List Happened → List Happened → Event → Type 0
AnswersSafely script said k d before after e =
    (c : Config) (es : List Answered) → AllMayHappen c (events_in es) → MayHappen c e → StandsAs script said k (answered_after c es)
    → (a : Answering) × SafeOn script said d (answered_after c (es ++ record { event = e; answers = a } ∷ [])) (IsSafe c (es ++ record { event = e; answers = a } ∷ [])) (answered_records c es) before after

-- the same where each client votes just as its word says
abbrev pub GoesSafely : {C : Type 0} → (C → Option Items) → (Items → Option Items) → World C → World C → List Happened → List Happened → Event → Type 0
GoesSafely script said k d before after e =
    AllWorded said → (c : Config) (es : List Event) → AllMayHappen c es → MayHappen c e → StandsAs script said k (world_after c es)
    → SafeOn script said d (world_after c (es ++ e ∷ [])) (IsSafeRun c (es ++ e ∷ [])) (records_of c es) before after
