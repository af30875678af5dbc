-- Every run of events is one of scenes, and so it is safe.
use Rattle.std.proofs.Common.{◌≡◌, List, [], ◌∷◌, ◌++◌, Some, sym, ap, ◌∙◌, subst, append-nil, append_assoc}
use Rattle.std.specs.Prelude.{fold, map, reverse}
use Rattle.std.proofs.lemmas.List.{reverse-append, map-append}
use Rattle.node_state.specs.declared.config.Config.{Config}
use Rattle.world_model.specs.Run.{Happening, Run}
use Rattle.world_model.specs.World.{World, world_new}
use Rattle.run_safety.specs.Past.{turned, history_of}
use Rattle.run_safety.specs.SafeLists.{OneEntry}
use Rattle.run_safety.specs.SafeGroups.{SafeGroups}
use Rattle.step_refinement.specs.Tied.{Scene, opening_of}
use Rattle.entry_laws.specs.late_rows.Runs.{TicksAreNoted}
use Rattle.entry_laws.specs.source_order.Meant.{DeliveriesAreNoted}
use Rattle.row_laws.specs.failed_rows.Scenes.{Played}
use Rattle.provider_laws.specs.leaving.Scenes.{Recounted}
use Rattle.step_refinement.specs.Runs.{Reached}
use Rattle.step_refinement.proofs.RunLaw.{reached_runs}
use Rattle.world_laws.specs.world_answers.Answers.{Answered, goes_on, events_in, answered_after}
use Rattle.world_safety.specs.Events.{happening, events_from, beginning, AllMayHappen}
use Rattle.world_safety.specs.Mirrors.{Mirrors}
use Rattle.world_safety.specs.Safety.{EveryRunIsReached, EveryRunIsSafe}
use Rattle.world_safety.proofs.Traces.{since_is}
use Rattle.world_safety.proofs.Following.{Follows, event_follows}
use Rattle.world_safety.proofs.Beginning.{Begun, run_begun}

-- one event more
history_on : (run : Run) (h : Happening) → history_of (run ++ h ∷ []) ≡ turned h ∷ history_of run
history_on run h = ap reverse (map-append turned run (h ∷ [])) ∙ reverse-append (map turned run) (turned h ∷ [])

-- the events that came made this run, and the scene stands for their world
record Stands (c : Config) (w : World) (run : Run) : Type 0 where
  scene : Scene
  reached : Reached c scene
  noted : TicksAreNoted c scene reached
  given : DeliveriesAreNoted c scene reached
  played : Played c scene
  recounted : Recounted c scene
  mirrors : Mirrors c w scene
  before : scene.before ≡ history_of run

stands_on : (c : Config) (w : World) (run : Run) (e : Answered) (s : Scene) (k : Reached c s) → TicksAreNoted c s k → DeliveriesAreNoted c s k → Played c s → Recounted c s → s.before ≡ history_of run → Follows c s k e.event w (goes_on w e) → Stands c (goes_on w e) (run ++ happening w e ∷ [])
stands_on c w run e s k noted given played recounted is f =
    let now : f.records ≡ _ = sym (since_is w (goes_on w e) f.records f.trace) in
    record {
      scene = f.scene;
      reached = f.reached;
      noted = f.noted noted;
      given = f.given given;
      played = f.played played;
      recounted = f.recounted recounted;
      mirrors = f.mirrors;
      before = f.before ∙ ap (λ rs. record { event = Some e.event; records = reverse rs } ∷ s.before) now ∙ ap (λ b. turned (happening w e) ∷ b) is ∙ sym (history_on run (happening w e));
    }

all_stand : (c : Config) (es : List Answered) (w : World) (run : Run) → AllMayHappen c (events_in es) → Stands c w run → Stands c (fold goes_on w es) (run ++ events_from w es)
all_stand c [] w run may t = subst (Stands c w) (sym (append-nil run)) t
all_stand c (e ∷ es) w run may t =
    let one : Stands c (goes_on w e) (run ++ happening w e ∷ []) = stands_on c w run e t.scene t.reached t.noted t.given t.played t.recounted t.before (event_follows e.answers c w t.scene e.event may.0 t.reached t.mirrors) in
    subst (Stands c (fold goes_on (goes_on w e) es)) (append_assoc run (happening w e ∷ []) (events_from (goes_on w e) es)) (all_stand c es (goes_on w e) (run ++ happening w e ∷ []) may.1 one)

pub every_run_is_reached : EveryRunIsReached
unfolding answered_after
every_run_is_reached c es may =
    let b : Begun c (world_new c) c.mode = run_begun c in
    let t = all_stand c es (world_new c) (beginning (world_new c) c.mode) may (record { scene = b.scene; reached = b.reached; noted = b.noted; given = b.given; played = b.played; recounted = b.recounted; mirrors = b.mirrors; before = b.before }) in
    (t.scene, t.reached, t.noted, t.played, t.mirrors, t.before, t.recounted, t.given)

pub every_run_is_safe : EveryRunIsSafe
every_run_is_safe c es may =
    let t = every_run_is_reached c es may in
    let safe : SafeGroups (opening_of t.0.config) t.0.before × OneEntry t.0.before = reached_runs c t.0 t.1 in
    let safe' : SafeGroups (opening_of c) t.0.before × OneEntry t.0.before = subst (λ (z : Config). SafeGroups (opening_of z) t.0.before × OneEntry t.0.before) t.4.scene_config safe in
    subst (λ h. SafeGroups (opening_of c) h × OneEntry h) t.5 safe'
