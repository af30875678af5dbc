-- Between events a node rests, and the event of a goodbye puts nothing.
use Rattle.std.specs.Prelude.{◌≡◌, ℕ, false, Some, List}
use Rattle.std.specs.List.{list_any}
use Rattle.rsct_packet.specs.declared.ids.ViewId.{ViewId}
use Rattle.rsct_packet.specs.Search.{Has}
use Rattle.proposal_core.specs.declared.entry.Entry.{Entry}
use Rattle.node_state.specs.declared.call.CallLine.TheVariants.{Goodbye}
use Rattle.node_state.specs.declared.config.Config.{Config}
use Rattle.node_state.specs.declared.happened.Happened.TheVariants.{Put}
use Rattle.node_state.specs.declared.state.Core.{Core}
use Rattle.node_state.specs.HandOn.{Answering}
use Rattle.node_state.specs.Ending.{end_step}
use Rattle.world_model.specs.Run.{Happening}
use Rattle.world_model.specs.declared.event.Event.TheVariants.{Call}
use Rattle.run_safety.specs.Past.{EachEvent}
use Rattle.run_safety.specs.Stays.{is_refused}
use Rattle.step_refinement.specs.Tied.{Scene}
use Rattle.step_refinement.specs.Runs.{Reached}
use Rattle.provider_laws.specs.leaving.Scenes.{Recounted}

-- between events the end of a step would change nothing at any node: what waits has begun, as far as it can
abbrev pub NodesRest : Type 0
NodesRest = (c : Config) (w : Scene) → Reached c w → (n : ℕ) (s : Core) → w.cores n ≡ Some s → (f : Answering) → end_step f s ≡ s

-- a goodbye that is taken puts nothing
abbrev pub GoodbyePutsNothing : Happening → Type 0
GoodbyePutsNothing event =
    (n : ℕ) (client : List ℕ) → event.event ≡ Some (Call n (Goodbye client)) → list_any is_refused event.records ≡ false → (m : ℕ) (v : ViewId) (g : List ℕ) (i : ℕ) (e : Entry) → Has (Put m v g i e) event.records → ⊥

-- in every scene whose history names calls, and calls alone, as calls
abbrev pub GoodbyesPutNothing : Type 0
GoodbyesPutNothing = (c : Config) (w : Scene) → Recounted c w → EachEvent (λ event before. GoodbyePutsNothing event) w.before
