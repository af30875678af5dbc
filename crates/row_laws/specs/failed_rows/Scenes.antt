-- Of every scene that events lead to, where the history names calls.
use Rattle.std.specs.Prelude.{ℕ, ◌+◌, ◌≡◌, ◌≢◌, true, false, Some, None, List}
use Rattle.rsct_packet.specs.declared.ids.ProviderId.{ProviderId}
use Rattle.rsct_packet.specs.Search.{Has}
use Rattle.proposal_core.specs.declared.proposal.Proposal.{Proposal}
use Rattle.node_state.specs.declared.call.CallLine.{CallLine}
use Rattle.node_state.specs.declared.config.Config.{Config}
use Rattle.node_state.specs.declared.happened.Happened.{Happened}
use Rattle.node_state.specs.declared.happened.Happened.TheVariants.{Asked}
use Rattle.run_safety.specs.Past.{records_of}
use Rattle.node_state.specs.declared.state.Core.{Core}
use Rattle.node_state.specs.Settings.{is_fixed}
use Rattle.node_state.specs.HandOn.{Answering}
use Rattle.node_state.specs.Step.{NodeEvent, Calls, started, stepped}
use Rattle.world_model.specs.declared.event.Event.{Event}
use Rattle.world_model.specs.declared.event.Event.TheVariants.{Call}
use Rattle.step_refinement.specs.Tied.{Scene}
use Rattle.step_refinement.specs.Rules.{nothing_yet, all_started, start_with, stopped, ended, Arises}
use Rattle.step_refinement.specs.Runs.{IsNote, noted}
use Rattle.row_laws.specs.failed_rows.Failures.{FailuresHaveCauses}

-- the event that is noted names the call
abbrev pub Names : ℕ → NodeEvent → Event → Type 0
Names n e v = (c : CallLine) → e ≡ Calls c → v ≡ Call n c

-- as scenes that events lead to, where each call is noted as such
pub data Played (c : Config) : Scene → Type 0 where
  Nothing : Played c (nothing_yet c)
  AllStart : is_fixed c.mode ≡ true → Played c (all_started c)
  Starts : (w : Scene) (n : ℕ) (e : Event) → Played c w → is_fixed w.config.mode ≡ false → n ≢ 0 → w.cores n ≡ None → Played c (start_with w n e (started w.config n (w.incs n + 1)))
  Stops : (w : Scene) (n : ℕ) (e : Event) (s : Core) → Played c w → w.cores n ≡ Some s → Played c (stopped w n e)
  Steps : (w : Scene) (n : ℕ) (f : Answering) (s : Core) (e : NodeEvent) (v : Event) → Played c w → w.cores n ≡ Some s → Arises w e → Names n e v → Played c (ended w n v (stepped f s e))
  Notes : (w : Scene) (e : Event) (rs : List Happened) → Played c w → ((r : Happened) → Has r rs → IsNote r) → Played c (noted w e rs)

-- who is said to have failed did
abbrev pub FailuresAreHonest : Type 0
FailuresAreHonest = (c : Config) (w : Scene) → Played c w → FailuresHaveCauses w.before

-- each request of a provider is asked in one group alone
abbrev pub RequestsHaveOneGroup : Type 0
RequestsHaveOneGroup =
    (c : Config) (w : Scene) → Played c w → (p : ProviderId) (r : ℕ) (g h : List ℕ) (x y : Proposal) → Has (Asked p r g x) (records_of w.before) → Has (Asked p r h y) (records_of w.before) → g ≡ h
