-- Every list of events that may happen makes a safe run, and so does every script whose lines may happen, however it was made.
use Rattle.std.specs.Prelude.{ℕ, ◌≡◌, ◌≢◌, false, List, [], ◌∷◌}
use Rattle.node_state.specs.declared.config.Config.{Config}
use Rattle.node_state.specs.declared.config.Mode.{Mode}
use Rattle.node_state.specs.Settings.{is_fixed}
use Rattle.world_model.specs.declared.event.Event.{Event}
use Rattle.world_model.specs.declared.event.Event.TheVariants as event
use Rattle.world_model.specs.declared.script.Line.{Line}
use Rattle.world_model.specs.declared.script.Line.TheVariants as line
use Rattle.world_model.specs.declared.script.Script.{Script}
use Rattle.world_model.specs.Reading.{IsScript, script_of}
use Rattle.world_model.specs.World.{records_of}
use Rattle.run_laws.specs.ring_runs.Rings.{AddressesFit}
use Rattle.world_laws.specs.world_answers.Answers.{Answered, events_in, answered_records}
use Rattle.world_safety.specs.Events.{AllMayHappen}
use Rattle.world_safety.specs.Scripts.{IsSafe, IsSafeRun, ScriptIsSafe, KeptRunIsSafe}

-- what a line of a script has of the settings: who starts is not 0, and in mode fixed no line starts a node
abbrev pub LineMay : Mode → Line → Type 0
LineMay m (line.Plain (event.Start n)) = (is_fixed m ≡ false) × (n ≢ 0)
LineMay m _ = Unit {0}

abbrev pub LinesMay : Mode → List Line → Type 0
LinesMay m [] = Unit {0}
LinesMay m (l ∷ ls) = LineMay m l × LinesMay m ls

-- the lines of the script may happen, and on each network the addresses of its settings differ
pub record MayPlay (s : Script) : Type 0 where
  pub lines : LinesMay s.config.mode s.lines
  pub addresses : (net : ℕ) → AddressesFit s.config net

-- each script that is read is such a one
abbrev pub ScriptsMayPlay : Type 0
ScriptsMayPlay = (bytes : List ℕ) (s : Script) → script_of bytes ≡ IsScript s → MayPlay s

-- whatever clients answer, the records of events that may happen are those of a safe run
abbrev pub EveryAnswerIsSafe : Type 0
EveryAnswerIsSafe = (c : Config) (es : List Answered) → AllMayHappen c (events_in es) → IsSafe c es (answered_records c es)

-- so where they vote by the words of a script
abbrev pub EventsAreSafe : Type 0
EventsAreSafe = (c : Config) (es : List Event) → AllMayHappen c es → IsSafeRun c es (records_of c es)

abbrev pub EveryPlayIsSafe : Type 0
EveryPlayIsSafe = (s : Script) → MayPlay s → ScriptIsSafe s

-- also up to the event whose packets pass a number of bytes
abbrev pub EveryKeptPlayIsSafe : Type 0
EveryKeptPlayIsSafe = (limit : ℕ) (s : Script) → MayPlay s → KeptRunIsSafe limit s
