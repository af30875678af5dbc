-- Each event of the world is one of the scene, whatever the clients answer.
use Rattle.std.proofs.Common.{◌≡◌, ◌≢◌, ℕ, ◌==◌, ◌+◌, List, [], ◌∷◌, ◌++◌, Option, Some, None, Bool, true, false, refl, sym, ap, ◌∙◌, subst, inl, inr, ◌⊎◌}
use Rattle.std.specs.Prelude.{find, map, reverse}
use Rattle.rsct_packet.specs.Ids.{last_u32}
use Rattle.rsct_packet.specs.Lists.{reverse_onto}
use Rattle.rsct_packet.specs.Search.{Has}
use Rattle.rsct_packet.proofs.HasLaws.{append_has_right, has_map}
use Rattle.packet_bodies.specs.declared.body.What.{What}
use Rattle.session_state.specs.declared.fault.GsFault.TheVariants.{NoInit}
use Rattle.node_state.specs.declared.call.CallLine.{CallLine}
use Rattle.node_state.specs.declared.config.Config.{Config}
use Rattle.node_state.specs.declared.happened.Happened.{Happened}
use Rattle.node_state.specs.declared.happened.Happened.TheVariants as happened
use Rattle.node_state.specs.declared.packet.Packet.{Packet}
use Rattle.node_state.specs.declared.state.Core.{Core}
use Rattle.node_state.specs.Calls.{caller_of}
use Rattle.node_state.specs.HandOn.{Answering}
use Rattle.node_state.specs.Settings.{is_fixed}
use Rattle.node_state.specs.State.{with_sessions}
use Rattle.node_state.specs.Status.{status_of}
use Rattle.node_state.specs.Step.{NodeEvent, Ticks, Asks, Given, Calls, stepped, started}
use Rattle.node_state.specs.Step as step
use Rattle.world_model.specs.declared.event.Event.{Event}
use Rattle.world_model.specs.declared.event.Event.TheVariants as event
use Rattle.world_model.specs.World.{Script, Node, World, is_node, node_at, kth_between, handled, traced, after_step, started_at, starts_if, node_starts, stops_if, shows_if, scripts_after}
use Rattle.world_laws.proofs.world_runs.Traces.{after_records}
use Rattle.step_refinement.specs.Tied.{Scene, NodeIsIf, Rests}
use Rattle.step_refinement.specs.Rules.{over, stopped, start_with, ended, Arises}
use Rattle.entry_laws.specs.late_rows.Runs.{NotedAs, TicksAreNoted}
use Rattle.entry_laws.specs.source_order.Meant.{IsDelivery, DeliveryNoted, DeliveriesAreNoted}
use Rattle.row_laws.specs.failed_rows.Scenes.{Names, Played}
use Rattle.row_laws.specs.failed_rows.Scenes as played
use Rattle.provider_laws.specs.leaving.Scenes.{IsCall, NoCall, IsDown, Recounted}
use Rattle.provider_laws.specs.leaving.Scenes as recounted
use Rattle.step_refinement.specs.Runs.{IsNote, noted, Reached, Starts, Stops, Steps, Notes}
use Rattle.step_refinement.proofs.Changed.{set_here, each_set}
use Rattle.step_refinement.proofs.RunLaw.{reached_rests}
use Rattle.world_laws.specs.world_answers.Answers.{step_by, step_by_if, calls_by_if, delivers_by_if, happens_by}
use Rattle.world_safety.specs.Events.{MayHappen}
use Rattle.world_safety.specs.Mirrors.{core_in, inc_at, Mirrors}
use Rattle.world_safety.proofs.Mirroring.{started_sends, later_mirrors, handled_mirrors, step_mirrors, stop_mirrors, same_start, start_mirrors}
use Rattle.world_safety.proofs.Posting.{kth_is}

-- the packet that a node is given is that which the event names
abbrev pub IsNamed : World → Event → ℕ → NodeEvent → Type 0
IsNamed u e n (Given p) = (a : ℕ) × (i : ℕ) × (e ≡ event.Deliver a n i) × (kth_between u a n i ≡ Some p)
IsNamed u e n _ = Unit {0}

-- a node took a step in the event, and recorded this
pub record StepOf (s : Scene) (u : World) (e : Event) (now : List Happened) (n : ℕ) (t : Core) : Type 0 where
  pub answers : Answering
  pub core : Core
  pub what : NodeEvent
  pub up : s.cores n ≡ Some core
  pub is : t ≡ stepped answers core what
  pub arises : Arises s what
  pub delivered : DeliveryNoted n what e
  pub named : IsNamed u e n what
  pub records : (r : Happened) → Has r (reverse t.records) → Has r now

-- a node started in the event, and recorded this
pub record StartOf (s : Scene) (now : List Happened) (n : ℕ) (t : Core) : Type 0 where
  pub inc : ℕ
  pub is : t ≡ started s.config n inc
  pub records : (r : Happened) → Has r (reverse t.records) → Has r now

-- a node after the event was so before, or it started, or it took a step
abbrev pub CameTo : Scene → World → Event → List Happened → ℕ → Core → Type 0
CameTo s u e now n t = (s.cores n ≡ Some t) ⊎ StartOf s now n t ⊎ StepOf s u e now n t

-- after the event the scene stands for the world, and both have these records more
pub record Follows (c : Config) (s : Scene) (k : Reached c s) (e : Event) (u w : World) : Type 0 where
  pub scene : Scene
  pub reached : Reached c scene
  pub noted : TicksAreNoted c s k → TicksAreNoted c scene reached
  pub given : DeliveriesAreNoted c s k → DeliveriesAreNoted c scene reached
  pub played : Played c s → Played c scene
  pub recounted : Recounted c s → Recounted c scene
  pub mirrors : Mirrors c w scene
  pub records : List Happened
  pub before : scene.before ≡ record { event = Some e; records = reverse records } ∷ s.before
  pub trace : w.trace ≡ reverse_onto records u.trace
  pub cores : (n : ℕ) (t : Core) → scene.cores n ≡ Some t → CameTo s u e (reverse records) n t

-- a call names its node and what is called
same_node : (n a : ℕ) (x y : CallLine) → event.Call n x ≡ event.Call a y → n ≡ a
same_node n a x y e = cc

same_call : (n a : ℕ) (x y : CallLine) → event.Call n x ≡ event.Call a y → x ≡ y
same_call n a x y e = cc

-- nobody stands in the table of a node that starts
pub started_unnamed : (c : Config) (n j : ℕ) → (started c n j).names ≡ []
unfolding started with_sessions
started_unnamed c n j = refl

module _ (c : Config) (w : World) (s : Scene) (k : Reached c s) (m : Mirrors c w s) where
  free_there : is_fixed c.mode ≡ false → is_fixed s.config.mode ≡ false
  free_there free = ap (λ (z : Config). is_fixed z.mode) m.scene_config ∙ free

  -- ---- no node changes

  no_down : (e : Event) → NoCall e → IsDown s e
  no_down e uncalled n x is = absurd (uncalled n x is)

  noted_follows : (e : Event) (rs : List Happened) → ((r : Happened) → Has r rs → IsNote r) → IsDown s e → Follows c s k e w (traced w rs)
  unfolding traced
  noted_follows e rs notes down =
      record {
        scene = noted s e rs;
        reached = Notes s e rs k notes;
        noted = λ z. z;
        given = λ z. z;
        played = λ z. played.Notes s e rs z notes;
        recounted = λ z. recounted.Notes s e rs z notes down;
        mirrors = record { config = m.config; scene_config = m.scene_config; cores = m.cores; incs = m.incs; once = m.once; sent = m.sent; came = m.came; paired = m.paired };
        records = rs;
        before = refl;
        trace = refl;
        cores = λ n t up. inl up;
      }

  nothing_follows : (e : Event) → NoCall e → Follows c s k e w w
  nothing_follows e uncalled =
      record {
        scene = noted s e [];
        reached = Notes s e [] k (λ r h. absurd h);
        noted = λ z. z;
        given = λ z. z;
        played = λ z. played.Notes s e [] z (λ r h. absurd h);
        recounted = λ z. recounted.Notes s e [] z (λ r h. absurd h) (no_down e uncalled);
        mirrors = later_mirrors c w s m (noted s e []).before;
        records = [];
        before = refl;
        trace = refl;
        cores = λ n t up. inl up;
      }

  module _ (n : ℕ) where
    -- ---- a step

    step_follows : (x : Node) → find (is_node n) w.nodes ≡ Some x → (scripts : List Script) (f : Answering) (e : NodeEvent) (v : Event) → NotedAs n e v → DeliveryNoted n e v → IsNamed w v n e → Names n e v → IsCall n e v → Arises s e → Follows c s k v w (after_step w scripts (stepped f x.core e))
    step_follows x up scripts f e v named delivered fact called only arises =
        record {
          scene = ended s n v y;
          reached = reached;
          noted = λ z. (named, z);
          given = λ z. (delivered, z);
          played = λ z. played.Steps s n f x.core e v z (m.cores n ∙ ap core_in up) arises called;
          recounted = λ z. recounted.Steps s n f x.core e v z (m.cores n ∙ ap core_in up) arises called only;
          mirrors = step_mirrors c w s m n x up scripts y me (over v y ∷ s.before);
          records = y.records;
          before = refl;
          trace = after_records w scripts y;
          cores = each_set (λ j o. (t : Core) → o ≡ Some t → CameTo s w v (reverse y.records) j t) s.cores n (Some y) own (λ j ne t e. inl e);
        }
      where
        y : Core
        y = stepped f x.core e

        own : (t : Core) → Some y ≡ Some t → CameTo s w v (reverse y.records) n t
        own t same =
            let is : y ≡ t = cc in
            inr (inr (record { answers = f; core = x.core; what = e; up = m.cores n ∙ ap core_in up; is = sym is; arises = arises; delivered = delivered; named = fact; records = λ r h. subst (λ (z : Core). Has r (reverse z.records)) (sym is) h }))

        reached : Reached c (ended s n v y)
        reached = Steps s n f x.core e v k (m.cores n ∙ ap core_in up) arises

        me : y.views.me ≡ n
        me =
            let t : Rests [] (ended s n v y) = reached_rests c (ended s n v y) reached [] in
            let is : NodeIsIf s.config t.ghost [] n (s.incs n) (Some y) = subst (λ o. NodeIsIf s.config t.ghost [] n (s.incs n) o) (set_here s.cores n (Some y)) (t.nodes n) in
            is.0.stands.me

    steps_follow : (f : Answering) (o : Option Node) → find (is_node n) w.nodes ≡ o → (e : NodeEvent) (v : Event) → NotedAs n e v → DeliveryNoted n e v → IsNamed w v n e → Names n e v → NoCall v → Arises s e → Follows c s k v w (step_by_if f w e o)
    unfolding step_by_if step_by
    steps_follow f None at e v named delivered fact called uncalled arises = nothing_follows v uncalled
    steps_follow f (Some x) at e v named delivered fact called uncalled arises = step_follows x at x.scripts f e v named delivered fact called (λ a b is. absurd (uncalled a b is)) arises

    -- ---- a start and a stop

    start_follows : (v : Event) → NoCall v → is_fixed c.mode ≡ false → n ≢ 0 → find (is_node n) w.nodes ≡ None → Follows c s k v w (started_at w n (inc_at w.starts n + 1))
    unfolding started_at traced
    start_follows v uncalled free real down =
        record {
          scene = start_with s n v y;
          reached = Starts s n v k (free_there free) real (m.cores n ∙ ap core_in down);
          noted = λ z. z;
          given = λ z. z;
          played = λ z. played.Starts s n v z (free_there free) real (m.cores n ∙ ap core_in down);
          recounted = λ z. recounted.Starts s n v z (free_there free) real (m.cores n ∙ ap core_in down) uncalled;
          mirrors = start_mirrors c w s m n down (y.sends ++ s.sent) (over v y ∷ s.before) (λ p h. append_has_right p y.sends s.sent h) (λ p h. subst (λ l. Has p (l ++ s.sent)) (started_sends s.config n (s.incs n + 1)) h);
          records = y.records;
          before = refl;
          trace = ap (λ (z : Core). reverse_onto z.records w.trace) (sym (same_start c w s m n));
          cores = each_set (λ j o. (t : Core) → o ≡ Some t → CameTo s w v (reverse y.records) j t) s.cores n (Some y) (λ t e. inr (inl (fresh t e))) (λ j ne t e. inl e);
        }
      where
        y : Core
        y = started s.config n (s.incs n + 1)

        fresh : (t : Core) → Some y ≡ Some t → StartOf s (reverse y.records) n t
        fresh t e =
            let is : y ≡ t = cc in
            record { inc = s.incs n + 1; is = sym is; records = λ r h. subst (λ (z : Core). Has r (reverse z.records)) (sym is) h }

    starts_follow : (v : Event) → NoCall v → is_fixed c.mode ≡ false → n ≢ 0 → (o : Option Node) → find (is_node n) w.nodes ≡ o → Follows c s k v w (starts_if w n (inc_at w.starts n) o)
    unfolding starts_if
    starts_follow v uncalled free real (Some x) at = nothing_follows v uncalled
    starts_follow v uncalled free real None at = by (inc_at w.starts n == last_u32)
      where
        by : (b : Bool) → Follows c s k v w (elim b [ true ↦ w | false ↦ started_at w n (inc_at w.starts n + 1) ])
        by true = nothing_follows v uncalled
        by false = start_follows v uncalled free real at

    stops_follow : (v : Event) → NoCall v → (o : Option Node) → find (is_node n) w.nodes ≡ o → Follows c s k v w (stops_if w n o)
    unfolding stops_if traced
    stops_follow v uncalled None at = nothing_follows v uncalled
    stops_follow v uncalled (Some x) at =
        record {
          scene = stopped s n v;
          reached = Stops s n v x.core k (m.cores n ∙ ap core_in at);
          noted = λ z. z;
          given = λ z. z;
          played = λ z. played.Stops s n v x.core z (m.cores n ∙ ap core_in at);
          recounted = λ z. recounted.Stops s n v x.core z (m.cores n ∙ ap core_in at) uncalled;
          mirrors = stop_mirrors c w s m n (happened.Down n ∷ []) (stopped s n v).before;
          records = happened.Down n ∷ [];
          before = refl;
          trace = refl;
          cores = each_set (λ j o. (t : Core) → o ≡ Some t → CameTo s w v (happened.Down n ∷ []) j t) s.cores n None (λ t e. absurd (cc)) (λ j ne t e. inl e);
        }

    -- ---- what is shown, and calls

    shows_follow : (v : Event) → NoCall v → (what : What) (o : Option Node) → Follows c s k v w (shows_if w n what o)
    unfolding shows_if
    shows_follow v uncalled what None = nothing_follows v uncalled
    shows_follow v uncalled what (Some x) = noted_follows v (map (happened.Shown n) (status_of x.core what)) (λ r h. shown r (has_map (happened.Shown n) r (status_of x.core what) h).2) (no_down v uncalled)
      where
        shown : (r : Happened) {line : List ℕ} → r ≡ happened.Shown n line → IsNote r
        shown r e = subst IsNote (sym e) tt

    calls_follow : (f : Answering) (v : Event) (x : CallLine) → v ≡ event.Call n x → (o : Option Node) → find (is_node n) w.nodes ≡ o → Follows c s k v w (calls_by_if f w n x o)
    unfolding calls_by_if step_by
    calls_follow f v x is None at = noted_follows v (happened.Refused n (caller_of x) NoInit ∷ []) refused down
      where
        down : IsDown s v
        down a y e = subst (λ i. s.cores i ≡ None) (same_node n a x y (sym is ∙ e)) (m.cores n ∙ ap core_in at)

        refused : (r : Happened) → Has r (happened.Refused n (caller_of x) NoInit ∷ []) → IsNote r
        refused r (inl e) = subst IsNote (sym e) tt
        refused r (inr h) = absurd h
    calls_follow f v x is (Some y) at = step_follows y at (scripts_after x y.core y.scripts) f (Calls x) v tt tt tt (λ c e. is ∙ ap (event.Call n) (called x c e)) (λ a z e. (sym (same_node n a x z (sym is ∙ e)), ap Calls (same_call n a x z (sym is ∙ e)))) tt
      where
        called : (x c : CallLine) → Calls x ≡ Calls c → x ≡ c
        called x c e = cc

-- ---- a delivery

-- what waits is not read
unwaiting : (c : Config) (w : World) (s : Scene) (k : Reached c s) (v : Event) (a b i : ℕ) (x : World) → Follows c s k v (handled w a b i) x → Follows c s k v w x
unfolding handled kth_between
unwaiting c w s k v a b i x f =
    record { scene = f.scene; reached = f.reached; noted = f.noted; given = f.given; played = f.played; recounted = f.recounted; mirrors = f.mirrors; records = f.records; before = f.before; trace = f.trace; cores = λ n t up. on n t (f.cores n t up) }
  where
    named : (n : ℕ) (e : NodeEvent) → IsNamed (handled w a b i) v n e → IsNamed w v n e
    named n (Given p) z = (z.0, z.1, z.2, z.3)
    named n Ticks z = tt
    named n (Asks mask) z = tt
    named n (Calls d) z = tt
    named n step.Garbage z = tt

    on : (n : ℕ) (t : Core) → CameTo s (handled w a b i) v (reverse f.records) n t → CameTo s w v (reverse f.records) n t
    on n t (inl z) = inl z
    on n t (inr (inl z)) = inr (inl z)
    on n t (inr (inr z)) = inr (inr (record { answers = z.answers; core = z.core; what = z.what; up = z.up; is = z.is; arises = z.arises; delivered = z.delivered; named = named n z.what z.named; records = z.records }))

delivers_follow : (f : Answering) (c : Config) (w : World) (s : Scene) (k : Reached c s) → Mirrors c w s → (a b i : ℕ) (v : Event) → NoCall v → v ≡ event.Deliver a b i → (o : Option Node) → find (is_node b) w.nodes ≡ o → (p : Option Packet) → kth_between w a b i ≡ p → Follows c s k v w (delivers_by_if f w a b i o p)
unfolding delivers_by_if step_by handled kth_between
delivers_follow f c w s k m a b i v uncalled is None at p q = nothing_follows c w s k m v uncalled
delivers_follow f c w s k m a b i v uncalled is (Some x) at None q = nothing_follows c w s k m v uncalled
delivers_follow f c w s k m a b i v uncalled is (Some x) at (Some p) q =
    unwaiting c w s k v a b i (after_step (handled w a b i) x.scripts (stepped f x.core (Given p))) (step_follows c (handled w a b i) s k (handled_mirrors c w s m a b i) b x at x.scripts f (Given p) v tt (subst (λ z. IsDelivery b (Some z)) (sym is) refl) (a, i, is, q) (λ c e. absurd (cc)) (λ y z is. absurd (uncalled y z is)) (kth_is (λ z. Has z s.sent) w a b i p m.paired q))

-- ---- each event

pub event_follows : (f : Answering) (c : Config) (w : World) (s : Scene) (e : Event) → MayHappen c e → (k : Reached c s) → Mirrors c w s → Follows c s k e w (happens_by f w e)
unfolding happens_by node_starts node_at
event_follows f c w s (event.Start n) may k m = starts_follow c w s k m n (event.Start n) (λ y z is. absurd (cc)) may.0 may.1 (find (is_node n) w.nodes) refl
event_follows f c w s (event.Stop n) may k m = stops_follow c w s k m n (event.Stop n) (λ y z is. absurd (cc)) (find (is_node n) w.nodes) refl
event_follows f c w s (event.Tick n) may k m = steps_follow c w s k m n f (find (is_node n) w.nodes) refl Ticks (event.Tick n) refl tt tt (λ c e. absurd (cc)) (λ y z is. absurd (cc)) tt
event_follows f c w s (event.Ask n mask) may k m = steps_follow c w s k m n f (find (is_node n) w.nodes) refl (Asks mask) (event.Ask n mask) tt tt tt (λ c e. absurd (cc)) (λ y z is. absurd (cc)) tt
event_follows f c w s (event.Call n x) may k m = calls_follow c w s k m n f (event.Call n x) x refl (find (is_node n) w.nodes) refl
event_follows f c w s (event.Show n what) may k m = shows_follow c w s k m n (event.Show n what) (λ y z is. absurd (cc)) what (find (is_node n) w.nodes)
event_follows f c w s (event.Deliver a b i) may k m = delivers_follow f c w s k m a b i (event.Deliver a b i) (λ y z is. absurd (cc)) refl (find (is_node b) w.nodes) refl (kth_between w a b i) refl
event_follows f c w s (event.Garbage n bytes) may k m = steps_follow c w s k m n f (find (is_node n) w.nodes) refl step.Garbage (event.Garbage n bytes) tt tt tt (λ c e. absurd (cc)) (λ y z is. absurd (cc)) tt
