-- In each scene that events lead to, each place is heard once.
use Rattle.std.proofs.Common.{◌≡◌, ℕ, [], Some, refl}
use Rattle.rsct_packet.proofs.HasLaws.{append_has_left}
use Rattle.node_state.specs.declared.config.Config.{Config}
use Rattle.node_state.specs.declared.happened.Happened.TheVariants as happened
use Rattle.node_state.specs.declared.state.Core.{Core}
use Rattle.node_state.specs.State.{list_of, state_of, len_of, row_of}
use Rattle.node_state.specs.HandOn.{Answering}
use Rattle.node_state.specs.Step.{NodeEvent, at_work, stepped}
use Rattle.world_model.specs.declared.event.Event.{Event}
use Rattle.run_safety.specs.Past.{records_of, inc_now}
use Rattle.step_refinement.specs.Tied.{Scene}
use Rattle.step_refinement.specs.Rules.{ended, Arises}
use Rattle.step_refinement.specs.Runs.{Reached, Steps}
use Rattle.step_refinement.proofs.RunLaw.{reached_rests}
use Rattle.step_refinement.proofs.Turns.{has_turned}
use Rattle.run_induction.proofs.Idle.{within_idle}
use Rattle.run_induction.proofs.Ran.{anyhow, ran_reached, reached_ran}
use Rattle.run_induction.proofs.Laws.{PastLaw, past_holds}
use Rattle.row_laws.proofs.hearing.Listening.{Rested, idle_aside, reached_attends, steps_change}
use Rattle.row_laws.proofs.hearing.Incarnations.{incs_of}
use Rattle.provider_laws.specs.attending.Places.{NextHeard, PlacesHeardOnce, EachPlaceIsHeardOnce}
use Rattle.provider_laws.proofs.attending.States.{entries_named, put_named, noted_alone, stand_once}
use Rattle.provider_laws.proofs.attending.Turns.{aside_next}
use Rattle.provider_laws.proofs.attending.Doing.{AllFine, Strict, strict_does}

-- what a scene's records say is fine
pub records_fine : (c : Config) (w : Scene) → Reached c w → AllFine (records_of w.before)
records_fine c w k (happened.Base n v g old len s) h = noted_alone c w k n v g old len s h
records_fine c w k (happened.Put n v g i e) h = put_named w.before (entries_named c w k) n v g i e h
records_fine c w k _ h = tt

-- ---- a step of a node

module _ (c : Config) (w : Scene) (n : ℕ) (s : Core) (k : Reached c w) (up : w.cores n ≡ Some s) where
  rested : Rested (w.incs n) w.before n s
  rested = (reached_attends c w k).up n s up

  pub begin_strict : inc_now n (records_of w.before) ≡ w.incs n → Strict n (w.incs n) w.before (at_work s)
  unfolding len_of state_of list_of row_of
  begin_strict start =
      record { hearing = record { me = rested.me; inc_of = rested.inc_of; at = rested.at }; law = tt; view = (reached_rests c w k []).placed n s up; incs = λ m. refl; start = start; alone = λ g. stand_once c w k n s up g }

  pub step_fine : (f : Answering) (e : NodeEvent) (v : Event) → Arises w e → AllFine (stepped f s e).records
  step_fine f e v arises r h =
      let t : Core = stepped f s e in
      records_fine c (ended w n v t) (Steps w n f s e v k up arises) r (has_turned r t.records (records_of w.before) (append_has_left r t.records (records_of w.before) h))

  stepped_strict : (f : Answering) (e : NodeEvent) (v : Event) → Arises w e → inc_now n (records_of w.before) ≡ w.incs n → Strict n (w.incs n) w.before (stepped f s e)
  stepped_strict f e v arises start =
      strict_does n (w.incs n) w.before (at_work s) (stepped f s e) (steps_change c w k n s up f e) (step_fine f e v arises) (begin_strict start)

once_law : (c : Config) → PastLaw anyhow c PlacesHeardOnce
once_law c =
    record {
      none = tt;
      outer = λ w e t o k. (within_idle NextHeard (λ r now h idle. aside_next now h r (idle_aside r idle)) e.records w.before o.idle, k);
      steps = λ w n f s e v r next up arises told k. let here : Reached c w = ran_reached anyhow c w r in ((stepped_strict c w n s here up f e v arises (incs_of c w here n)).law, k);
    }

pub places_once : EachPlaceIsHeardOnce
places_once c w k = past_holds anyhow c PlacesHeardOnce (once_law c) w (reached_ran c w k)
