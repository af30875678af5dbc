-- Scenes whose history names calls, and calls alone, as calls.
use Rattle.std.specs.Prelude.{ℕ, ◌+◌, ◌≡◌, ◌≢◌, true, false, Some, None, List}
use Rattle.rsct_packet.specs.Search.{Has}
use Rattle.node_state.specs.declared.call.CallLine.{CallLine}
use Rattle.node_state.specs.declared.config.Config.{Config}
use Rattle.node_state.specs.declared.happened.Happened.{Happened}
use Rattle.node_state.specs.declared.state.Core.{Core}
use Rattle.node_state.specs.Settings.{is_fixed}
use Rattle.node_state.specs.HandOn.{Answering}
use Rattle.node_state.specs.Step.{NodeEvent, Calls, started, stepped}
use Rattle.world_model.specs.declared.event.Event.{Event}
use Rattle.world_model.specs.declared.event.Event.TheVariants.{Call}
use Rattle.step_refinement.specs.Tied.{Scene}
use Rattle.step_refinement.specs.Rules.{nothing_yet, all_started, start_with, stopped, ended, Arises}
use Rattle.step_refinement.specs.Runs.{IsNote, noted}
use Rattle.row_laws.specs.failed_rows.Scenes.{Names}

-- what is noted as a call is this call, of this node
abbrev pub IsCall : ℕ → NodeEvent → Event → Type 0
IsCall n e v = (m : ℕ) (c : CallLine) → v ≡ Call m c → (m ≡ n) × (e ≡ Calls c)

-- it is noted as no call
abbrev pub NoCall : Event → Type 0
NoCall v = (m : ℕ) (c : CallLine) → v ≡ Call m c → ⊥

-- what is noted as a call is of a node that is down
abbrev pub IsDown : Scene → Event → Type 0
IsDown w v = (m : ℕ) (c : CallLine) → v ≡ Call m c → w.cores m ≡ None

-- as scenes that events lead to, where each call is noted as such, and nothing else is: a call without a step is of a node that is
-- down
pub data Recounted (c : Config) : Scene → Type 0 where
  Nothing : Recounted c (nothing_yet c)
  AllStart : is_fixed c.mode ≡ true → Recounted c (all_started c)
  Starts : (w : Scene) (n : ℕ) (e : Event) → Recounted c w → is_fixed w.config.mode ≡ false → n ≢ 0 → w.cores n ≡ None → NoCall e → Recounted c (start_with w n e (started w.config n (w.incs n + 1)))
  Stops : (w : Scene) (n : ℕ) (e : Event) (s : Core) → Recounted c w → w.cores n ≡ Some s → NoCall e → Recounted c (stopped w n e)
  Steps : (w : Scene) (n : ℕ) (f : Answering) (s : Core) (e : NodeEvent) (v : Event) → Recounted c w → w.cores n ≡ Some s → Arises w e → Names n e v → IsCall n e v → Recounted c (ended w n v (stepped f s e))
  Notes : (w : Scene) (e : Event) (rs : List Happened) → Recounted c w → ((r : Happened) → Has r rs → IsNote r) → IsDown w e → Recounted c (noted w e rs)
