-- At each event of each run: what a provider hears comes with the fold of its node's list.
use Rattle.std.proofs.Common.{◌≡◌, ◌⊎◌, ℕ, List, [], ◌∷◌, ◌++◌, Option, Some, None, refl, sym, ap, ◌∙◌, subst, inl, inr}
use Rattle.std.specs.Prelude.{reverse}
use Rattle.std.proofs.lemmas.List.Sums.{fold-append}
use Rattle.rsct_packet.specs.Lists.{reverse_onto}
use Rattle.rsct_packet.specs.Search.{Has}
use Rattle.rsct_packet.proofs.HasLaws.{has_reverse, reverse_has}
use Rattle.proposal_core.specs.declared.group_state.GroupState.{GroupState}
use Rattle.node_state.specs.declared.config.Config.{Config}
use Rattle.node_state.specs.declared.happened.Happened.{Happened}
use Rattle.node_state.specs.declared.packet.Packet.{Packet}
use Rattle.node_state.specs.declared.state.Core.{Core}
use Rattle.node_state.specs.HandOn.{Answering}
use Rattle.node_state.specs.Handed.{logged_in}
use Rattle.node_state.specs.State.{row_of, list_of, state_of}
use Rattle.node_state.specs.Step.{NodeEvent, Ticks, Asks, Given, Calls, at_work, stepped}
use Rattle.node_state.specs.Step as step
use Rattle.world_model.specs.declared.event.Event.{Event}
use Rattle.world_model.specs.declared.event.Event.TheVariants as event
use Rattle.world_model.specs.World.{Node, World, node_at, kth_between, handled, scripts_after, world_new}
use Rattle.world_laws.specs.world_runs.Runs.{Recorded}
use Rattle.world_laws.proofs.world_runs.Traces.{after_records}
use Rattle.world_laws.specs.world_answers.Answers.{Answered, step_by, step_by_if, calls_by_if, delivers_by_if, happens_by, goes_on, events_in, answered_after, answered_records}
use Rattle.run_safety.specs.Past.{records_of, state_now, history_of}
use Rattle.step_refinement.specs.Tied.{Scene}
use Rattle.step_refinement.specs.Runs.{Reached}
use Rattle.step_refinement.proofs.Begins.{begin_tied}
use Rattle.step_refinement.proofs.RunLaw.{reached_rests}
use Rattle.row_laws.specs.hearing.Hearing.{HeardInARow}
use Rattle.row_laws.proofs.hearing.Listening.{steps_change, providers_hear, reached_attends}
use Rattle.entry_laws.proofs.source_order.Tied.{states_tied}
use Rattle.run_laws.proofs.seen_runs.Steps.{Mine, step_mine}
use Rattle.world_safety.specs.Events.{run_of_events, MayHappen, AllMayHappen}
use Rattle.world_safety.specs.Mirrors.{core_in, Mirrors}
use Rattle.world_safety.specs.HeardStates.{stepping, AreFolds, HeardStatesAreFolds, FoldsStay}
use Rattle.world_safety.proofs.Turned.{onto_is, back_again}
use Rattle.world_safety.proofs.Traces.{since_is, run_has_the_records}
use Rattle.world_safety.proofs.Following.{Follows, event_follows}
use Rattle.world_safety.proofs.Runs.{every_run_is_reached}
use Rattle.world_safety.proofs.Moments.{front_may}
use Rattle.world_safety.proofs.Steady.{AllSteady, Own, Tracks, folds_onto, told_folds}
use Rattle.world_safety.proofs.SteadyRuns.{history_records, runs_steady, step_own}

-- ---- one event more

pub answered_last : (c : Config) (es : List Answered) (e : Answered) → answered_after c (es ++ e ∷ []) ≡ goes_on (answered_after c es) e
unfolding answered_after
answered_last c es e = fold-append goes_on (world_new c) es (e ∷ [])

pub last_may : (c : Config) (es : List Answered) (e : Answered) → AllMayHappen c (events_in (es ++ e ∷ [])) → MayHappen c e.event
last_may c [] e may = may.0
last_may c (x ∷ es) e may = last_may c es e may.1

-- the records that a world has more are these alone
same_records : (w v : World) (rs ss : List Happened) → Recorded w v rs → Recorded w v ss → rs ≡ ss
same_records w v rs ss a b = sym (since_is w v rs a) ∙ since_is w v ss b

-- ---- the step of a node

-- what an event records at a node is what a step of the node does, or nothing
abbrev OfStep : Answering → Core → List Happened → Type 0
OfStep f core rs = (rs ≡ []) ⊎ ((e : NodeEvent) × (rs ≡ (stepped f core e).records))

record Stepped (f : Answering) (w v : World) (core : Core) : Type 0 where
  records : List Happened
  recorded : Recorded w v records
  of_step : OfStep f core records

module _ (f : Answering) (w : World) (n : ℕ) (x : Node) where
  by_step : (e : NodeEvent) (o : Option Node) → o ≡ Some x → Stepped f w (step_by_if f w e o) x.core
  unfolding step_by_if step_by
  by_step e o at =
      subst (λ z. Stepped f w (step_by_if f w e z) x.core) (sym at) (record { records = (stepped f x.core e).records; recorded = after_records w x.scripts (stepped f x.core e); of_step = inr (e, refl) })

  by_delivery : (a b k : ℕ) (o : Option Node) (p : Option Packet) → o ≡ Some x → Stepped f w (delivers_by_if f w a b k o p) x.core
  unfolding delivers_by_if step_by handled
  by_delivery a b k o None at =
      subst (λ z. Stepped f w (delivers_by_if f w a b k z None) x.core) (sym at) (record { records = []; recorded = refl; of_step = inl refl })
  by_delivery a b k o (Some p) at =
      subst (λ z. Stepped f w (delivers_by_if f w a b k z (Some p)) x.core) (sym at) (record { records = (stepped f x.core (Given p)).records; recorded = after_records (handled w a b k) x.scripts (stepped f x.core (Given p)); of_step = inr (Given p, refl) })

  -- the event happens to this node
  there : (m : ℕ) → Some m ≡ Some n → node_at w n ≡ Some x → node_at w m ≡ Some x
  there m same at = let z : m ≡ n = cc in ap (node_at w) z ∙ at

  steps_there : (e : Event) → stepping e ≡ Some n → node_at w n ≡ Some x → Stepped f w (happens_by f w e) x.core
  unfolding happens_by calls_by_if step_by
  steps_there (event.Start m) same at = absurd (cc)
  steps_there (event.Stop m) same at = absurd (cc)
  steps_there (event.Show m what) same at = absurd (cc)
  steps_there (event.Tick m) same at = by_step Ticks (node_at w m) (there m same at)
  steps_there (event.Ask m mask) same at = by_step (Asks mask) (node_at w m) (there m same at)
  steps_there (event.Garbage m bytes) same at = by_step step.Garbage (node_at w m) (there m same at)
  steps_there (event.Deliver a b k) same at = by_delivery a b k (node_at w b) (kth_between w a b k) (there b same at)
  steps_there (event.Call m c) same at =
      subst (λ z. Stepped f w (calls_by_if f w m c z) x.core) (sym (there m same at)) (record { records = (stepped f x.core (Calls c)).records; recorded = after_records w (scripts_after c x.core x.scripts) (stepped f x.core (Calls c)); of_step = inr (Calls c, refl) })

-- ---- the scene at the event

module _ (c : Config) (s : Scene) (k : Reached c s) (n : ℕ) (core : Core) (up : s.cores n ≡ Some core) where
  itself : core.views.me ≡ n
  itself = ((reached_attends c s k).up n core up).me

  -- the states of the node's groups are what its records make of them
  stands_at : Tracks n (records_of s.before) (state_of core)
  unfolding state_of list_of row_of
  stands_at =
      record {
        view = core.views.view;
        is = (reached_rests c s k []).placed n core up;
        folds = λ g. (states_tied g s n (at_work core) (begin_tied g s n core up (reached_rests c s k g))).state ∙ ap (λ m. state_now m core.views.view g (records_of s.before)) itself;
      }

  -- what a step records is the node's own
  mine : (f : Answering) (rs : List Happened) → OfStep f core rs → (r : Happened) → Has r rs → Mine n r
  mine f rs (inl none) r h = absurd (subst (Has r) none h)
  mine f rs (inr q) r h = step_mine f core q.0 n itself (steps_change c s k n core up f q.0) r (subst (Has r) q.1 h)

module _ (c : Config) (es : List Answered) (e : Answered) (may : AllMayHappen c (events_in (es ++ e ∷ []))) where
  -- the trace before it
  trace_before : (s : Scene) → s.before ≡ history_of (run_of_events c es) → records_of s.before ≡ (answered_after c es).trace
  unfolding answered_records
  trace_before s is =
      ap records_of is ∙ (history_records (run_of_events c es) ∙ (ap reverse (run_has_the_records c es) ∙ back_again (answered_after c es).trace))

  -- and with its records
  trace_with : (s : Scene) (k : Reached c s) (f : Follows c s k e.event (answered_after c es) (goes_on (answered_after c es) e)) → records_of s.before ≡ (answered_after c es).trace → records_of f.scene.before ≡ reverse_onto f.records (answered_after c es).trace
  trace_with s k f is =
      ap records_of f.before ∙ (ap (λ rs. reverse f.records ++ rs) is ∙ sym (onto_is f.records (answered_after c es).trace))

  -- the scene there and the one after it
  record Scenes : Type 0 where
    scene : Scene
    reached : Reached c scene
    mirrors : Mirrors c (answered_after c es) scene
    next : Follows c scene reached e.event (answered_after c es) (goes_on (answered_after c es) e)
    trace : records_of scene.before ≡ (answered_after c es).trace
    steady : AllSteady (reverse_onto next.records (answered_after c es).trace)

  scenes : Scenes
  scenes =
      let run = every_run_is_reached c es (front_may c es (e ∷ []) may) in
      let f : Follows c run.0 run.1 e.event (answered_after c es) (goes_on (answered_after c es) e) = event_follows e.answers c (answered_after c es) run.0 e.event (last_may c es e may) run.1 run.4 in
      let is : records_of run.0.before ≡ (answered_after c es).trace = trace_before run.0 run.5 in
      record { scene = run.0; reached = run.1; mirrors = run.4; next = f; trace = is; steady = subst AllSteady (trace_with run.0 run.1 f is) (runs_steady c f.scene f.reached) }

-- ---- the laws

pub heard_states_are_folds : HeardStatesAreFolds
unfolding node_at
heard_states_are_folds c es e n x rs may same at recorded =
    let z : Scenes c es e may = scenes c es e may in
    let w : World = answered_after c es in
    let new : List Happened = z.next.records in
    let states : List ℕ → GroupState = state_of x.core in
    let last : answered_after c (es ++ e ∷ []) ≡ goes_on w e = answered_last c es e in
    let t : Stepped e.answers w (goes_on w e) x.core = steps_there e.answers w n x e.event same at in
    let all : new ≡ rs = same_records w (goes_on w e) new rs z.next.trace (subst (λ v. Recorded w v rs) last recorded) in
    let step : new ≡ t.records = same_records w (goes_on w e) new t.records z.next.trace t.recorded in
    let up : z.scene.cores n ≡ Some x.core = z.mirrors.cores n ∙ ap core_in at in
    let heard : HeardInARow (record { event = Some e.event; records = reverse new } ∷ z.scene.before) = subst HeardInARow z.next.before (providers_hear c z.next.scene z.next.reached) in
    let its : (r : Happened) → Has r (reverse new) → Mine n r = λ r h. mine c z.scene z.reached n x.core up e.answers t.records t.of_step r (subst (Has r) step (has_reverse r new h)) in
    let own : (r : Happened) → Has r new → Own n r = λ r h. step_own n (reverse new) z.scene.before its heard.0 r (reverse_has r new h) in
    let tracks : Tracks n w.trace states = subst (λ tr. Tracks n tr states) z.trace (stands_at c z.scene z.reached n x.core up) in
    let folds : AreFolds (reverse_onto new w.trace) (logged_in new states) = told_folds n new w.trace states own z.steady tracks in
    subst (λ (y : List Happened × List Happened). AreFolds y.0 (logged_in y.1 states)) (λ i. (sym (ap (λ (v : World). v.trace) last ∙ z.next.trace) i, all i)) folds

pub folds_stay : FoldsStay
folds_stay c es e ls may k =
    let z : Scenes c es e may = scenes c es e may in
    let trace : (answered_after c (es ++ e ∷ [])).trace ≡ reverse_onto z.next.records (answered_after c es).trace = ap (λ (v : World). v.trace) (answered_last c es e) ∙ z.next.trace in
    subst (λ tr. AreFolds tr ls) (sym trace) (folds_onto z.next.records (answered_after c es).trace ls z.steady k)
