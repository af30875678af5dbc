-- What holds of each record of a run, where it holds of all that are of no base.
use Rattle.std.proofs.Common.{◌≡◌, ℕ, List, [], ◌∷◌, ◌++◌, Option, Some, sym, subst, ap, ◌∙◌}
use Rattle.std.specs.Prelude.{reverse, flat_map, map}
use Rattle.std.proofs.lemmas.List.{reverse-append}
use Rattle.rsct_packet.specs.Search.{Has}
use Rattle.proposal_core.specs.declared.entry.Entry.{Entry}
use Rattle.client_callbacks.specs.declared.ballot.Filled.{Filled}
use Rattle.session_state.specs.HandOn.{casts_out}
use Rattle.node_state.specs.declared.config.Config.{Config}
use Rattle.node_state.specs.declared.happened.Happened.{Happened}
use Rattle.node_state.specs.declared.happened.Happened.TheVariants as happened
use Rattle.node_state.specs.declared.state.Core.{Core}
use Rattle.node_state.specs.State.{with_row, state_of, len_of, recorded, recorded_all, with_sessions, held_rows}
use Rattle.node_state.specs.HandOn.{Answering, heard}
use Rattle.node_state.specs.Leading.{put}
use Rattle.node_state.specs.Step.{NodeEvent, stepped}
use Rattle.world_model.specs.declared.event.Event.{Event}
use Rattle.run_safety.specs.Past.{History, EachRecord, Within, records_of}
use Rattle.step_refinement.specs.Tied.{Scene}
use Rattle.step_refinement.specs.Rules.{Arises}
use Rattle.step_refinement.specs.Runs.{Reached}
use Rattle.run_induction.proofs.Idle.{Idle, within_idle}
use Rattle.run_induction.proofs.Ran.{anyhow, ran_reached, reached_ran}
use Rattle.run_induction.proofs.Laws.{PastLaw, past_holds}
use Rattle.row_laws.specs.hearing.Changes.{Same, handing, Inner}
use Rattle.row_laws.proofs.hearing.Attending.{pushed, pushed_reverse}
use Rattle.provider_laws.proofs.single_casts.Adding.{Voiced, all_voiced}
use Rattle.provider_laws.proofs.attending.Turns.{within_pushed}
use Rattle.view_state.specs.declared.install.Install.{Install}
use Rattle.view_state.specs.declared.install.Base.{Base}
use Rattle.view_state.specs.Bases.{bases_of}
use Rattle.view_state.specs.Views.{views_entered}
use Rattle.node_state.specs.Applying.{base_record, view_entered, sides_dissolved}
use Rattle.step_refinement.proofs.BaseOrder.{base_noted}
use Rattle.row_laws.proofs.hearing.Added.{Adds, sides_add}

-- a record of no base
abbrev pub NoBase : Happened → Type 0
NoBase (happened.Base n v g u len s) = ⊥
NoBase _ = Unit {0}

pub inner_none : (r : Happened) → Inner r → NoBase r
inner_none (happened.Base n v g u len s) a = absurd a
inner_none _ a = tt

idle_none : (r : Happened) → Idle r → NoBase r
idle_none (happened.Base n v g u len s) a = absurd a
idle_none _ a = tt

voiced_none : (r : Happened) → Voiced r → NoBase r
voiced_none (happened.Base n v g u len s) a = absurd a
voiced_none _ a = tt

-- what is said of a record, of those of its event before it, and of the events before
module _ (Says : List Happened → History → Happened → Type 0) (none : (r : Happened) (now : List Happened) (before : History) → NoBase r → Says now before r) where
  pub none_pushed : (rs now : List Happened) (before : History) → ((r : Happened) → Has r rs → NoBase r) → Within Says now before → Within Says (pushed rs now) before
  none_pushed = within_pushed Says NoBase (λ now before r a. none r now before a)

  pub turned_none : (before : History) (rs : List Happened) (r : Happened) → NoBase r → Within Says (reverse rs) before → Within Says (reverse (rs ++ r ∷ [])) before
  turned_none before rs r a k =
      subst (λ z. Within Says z before) (sym (reverse-append rs (r ∷ []))) (none r (reverse rs) before a, k)

  -- an entry is put and handed on
  pub hands_none : (before : History) (s c : Core) (h : List ℕ) (e : Entry) (bs : List (Option Filled)) → Same (put s h e) c → Within Says (reverse s.records) before → Within Says (reverse (handing c h (len_of s h) (state_of s h) (state_of (put s h e) h) e bs).records) before
  unfolding recorded with_sessions put recorded_all with_row heard
  hands_none before s c h e bs same k =
      let rs : List Happened = flat_map (heard c h (len_of s h) e (state_of (put s h e) h)) (casts_out c.sessions h (state_of s h) (state_of (put s h e) h) e bs) in
      subst (λ z. Within Says z before) (sym (pushed_reverse rs c.records)) (none_pushed rs (reverse c.records) before (λ r i. voiced_none r (all_voiced c.views.view h (len_of s h) e (state_of (put s h e) h) (casts_out c.sessions h (state_of s h) (state_of (put s h e) h) e bs) r i)) (subst (λ z. Within Says (reverse z) before) (sym same.records) (turned_none before s.records (happened.Put s.views.me s.views.view h (len_of s h) e) tt k)))

  -- where each step says it
  pub each_scene : (c : Config) → ((w : Scene) (n : ℕ) (f : Answering) (s : Core) (e : NodeEvent) (v : Event) → Reached c w → w.cores n ≡ Some s → Arises w e → Within Says (reverse (stepped f s e).records) w.before) → (w : Scene) → Reached c w → EachRecord Says w.before
  each_scene c steps w k = past_holds anyhow c (EachRecord Says) law w (reached_ran c w k)
    where
      law : PastLaw anyhow c (EachRecord Says)
      law =
          record {
            none = tt;
            outer = λ w e t o k. (within_idle Says (λ r now h idle. none r now h (idle_none r idle)) e.records w.before o.idle, k);
            steps = λ w n f s e v r next up arises told k. (steps w n f s e v (ran_reached anyhow c w r) up arises, k);
          }

  -- a view is entered: whoever is dissolved is told so, which is no base
  pub enters_none : (before : History) (s : Core) (i : Install) → Within Says (pushed (map (base_noted s.views.me i.view) (bases_of i)) (happened.In s.views.me i.view i.members ∷ reverse s.records)) before → Within Says (reverse (sides_dissolved (view_entered s i (bases_of i)) (held_rows s) s.views.view (bases_of i)).records) before
  unfolding view_entered recorded_all views_entered base_record
  enters_none before s i k =
      let bs : List Base = bases_of i in
      let inside : Core = view_entered s i bs in
      let told : Adds Inner inside (sides_dissolved inside (held_rows s) s.views.view bs) = sides_add inside (held_rows s) s.views.view bs in
      subst (λ z. Within Says z before) (sym (ap reverse told.is ∙ pushed_reverse told.more inside.records)) (none_pushed told.more (reverse inside.records) before (λ r h. inner_none r (told.all r h)) (subst (λ z. Within Says z before) (sym (pushed_reverse (happened.In s.views.me i.view i.members ∷ map (base_noted s.views.me i.view) bs) s.records)) k))

-- ---- record by record

-- it holds of each record, with those before it
abbrev pub Every : (List Happened → Happened → Type 0) → List Happened → Type 0
Every P [] = Unit {0}
Every P (r ∷ rs) = P rs r × Every P rs

pub every_after : (P : List Happened → Happened → Type 0) (newer older : List Happened) → Every P (newer ++ older) → Every P older
every_after P [] older k = k
every_after P (r ∷ newer) older k = every_after P newer older k.1

-- by what holds of it with those of its event before it
module _ (P : List Happened → Happened → Type 0) (Q : List Happened → History → Happened → Type 0) (of : (now : List Happened) (before : History) (r : Happened) → Q now before r → P (now ++ records_of before) r) where
  every_now : (now : List Happened) (before : History) → Within Q now before → Every P (records_of before) → Every P (now ++ records_of before)
  every_now [] before k old = old
  every_now (r ∷ now) before k old = (of now before r k.0, every_now now before k.1 old)

  pub every_of : (h : History) → EachRecord Q h → Every P (records_of h)
  every_of [] k = tt
  every_of (e ∷ before) k = every_now e.records before k.0 (every_of before k.1)
