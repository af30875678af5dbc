-- Scenes that events lead to, and that they are safe.
use Rattle.std.specs.Prelude.{ℕ, ◌+◌, ◌≡◌, ◌≢◌, true, false, Some, None, List, ◌∷◌, reverse}
use Rattle.rsct_packet.specs.Search.{Has}
use Rattle.node_state.specs.declared.config.Config.{Config}
use Rattle.node_state.specs.declared.happened.Happened.{Happened}
use Rattle.node_state.specs.declared.happened.Happened.TheVariants as happened
use Rattle.node_state.specs.declared.state.Core.{Core}
use Rattle.node_state.specs.Settings.{is_fixed}
use Rattle.node_state.specs.HandOn.{Answering}
use Rattle.node_state.specs.Step.{NodeEvent, started, stepped}
use Rattle.world_model.specs.declared.event.Event.{Event}
use Rattle.run_safety.specs.SafeLists.{OneEntry}
use Rattle.run_safety.specs.SafeGroups.{SafeGroups}
use Rattle.step_refinement.specs.Tied.{Scene, Rests, opening_of}
use Rattle.step_refinement.specs.Rules.{nothing_yet, all_started, start_with, stopped, ended, Arises}

-- a record of what no node does: a call that is refused since the node is down, or a line of a status
abbrev pub IsNote : Happened → Type 0
IsNote (happened.Refused n client fault) = Unit {0}
IsNote (happened.Shown n line) = Unit {0}
IsNote _ = ⊥

-- an event by which no node changes
abbrev pub noted : Scene → Event → List Happened → Scene
noted w e rs = record w { before = record { event = Some e; records = reverse rs } ∷ w.before }

abbrev pub NoteTied : Type 0
NoteTied =
    (g : List ℕ) (w : Scene) (e : Event) (rs : List Happened) → ((r : Happened) → Has r rs → IsNote r) → Rests g w → Rests g (noted w e rs)

-- what events make of the scene in which nothing happened: in mode fixed all nodes start at once, and else one by one, none of them 0; a
-- node stops; a node takes a step, with what clients answer, where the packet that it is given was sent; or no node changes
pub data Reached (c : Config) : Scene → Type 0 where
  Nothing : Reached c (nothing_yet c)
  AllStart : is_fixed c.mode ≡ true → Reached c (all_started c)
  Starts : (w : Scene) (n : ℕ) (e : Event) → Reached c w → is_fixed w.config.mode ≡ false → n ≢ 0 → w.cores n ≡ None → Reached c (start_with w n e (started w.config n (w.incs n + 1)))
  Stops : (w : Scene) (n : ℕ) (e : Event) (s : Core) → Reached c w → w.cores n ≡ Some s → Reached c (stopped w n e)
  Steps : (w : Scene) (n : ℕ) (f : Answering) (s : Core) (e : NodeEvent) (v : Event) → Reached c w → w.cores n ≡ Some s → Arises w e → Reached c (ended w n v (stepped f s e))
  Notes : (w : Scene) (e : Event) (rs : List Happened) → Reached c w → ((r : Happened) → Has r rs → IsNote r) → Reached c (noted w e rs)

-- what each group sees of the run is safe, and each view and group has one list
abbrev pub RunsAreSafe : Type 0
RunsAreSafe = (c : Config) (w : Scene) → Reached c w → SafeGroups (opening_of w.config) w.before × OneEntry w.before
