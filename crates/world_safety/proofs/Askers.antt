-- Who asks first for a group leads it, where it has no base: of the coordinator's table at each moment, and of the NAME that answers
-- the first LOOKUP.
use Rattle.std.proofs.Common.{◌≡◌, ◌≢◌, ◌⊎◌, ℕ, List, [], ◌∷◌, ◌++◌, Option, Some, None, Bool, true, false, refl, sym, ap, ◌∙◌, subst, inl, inr, ⊎_elim, append_assoc, length, ◌+◌}
use Rattle.std.specs.Prelude.{◌==◌, ◌&&◌, not, find, fold, reverse, nat_le, if◌then◌else◌}
use Rattle.std.specs.Option.{unwrap_or}
use Rattle.std.specs.Str.{bytes_eq}
use Rattle.std.proofs.lemmas.Bool.{eqb-true, and_parts}
use Rattle.rsct_packet.specs.declared.ids.ViewId.{ViewId}
use Rattle.rsct_packet.specs.declared.ids.Member.{Member}
use Rattle.rsct_packet.specs.Ids.{last_u32}
use Rattle.packet_bodies.specs.declared.body.What.{What}
use Rattle.node_state.specs.declared.call.CallLine.{CallLine}
use Rattle.rsct_packet.specs.Search.{Has}
use Rattle.rsct_packet.proofs.HasLaws.{append_has_left, append_has_right}
use Rattle.proposal_core.specs.declared.entry.Entry.{Entry}
use Rattle.name_server.specs.Names.{node_of, looked_up, answer_at, max_names}
use Rattle.view_state.specs.Views.{is_coordinator}
use Rattle.node_state.proofs.NameOrder.{text_same, text_self}
use Rattle.node_state.specs.declared.config.Config.{Config}
use Rattle.node_state.specs.declared.config.Mode.{Mode}
use Rattle.node_state.specs.declared.config.Mode.TheVariants.{Fixed, Asked, Rings}
use Rattle.node_state.specs.declared.happened.Happened.{Happened}
use Rattle.node_state.specs.declared.happened.Happened.TheVariants as happened
use Rattle.node_state.specs.declared.packet.Body.{Body}
use Rattle.node_state.specs.declared.packet.Body.TheVariants as body
use Rattle.node_state.specs.declared.packet.Packet.{Packet}
use Rattle.node_state.specs.declared.state.Core.{Core}
use Rattle.node_state.specs.HandOn.{Answering}
use Rattle.node_state.specs.Settings.{is_fixed}
use Rattle.node_state.specs.State.{frozen, coordinates}
use Rattle.node_state.specs.Step.{NodeEvent, Ticks, Asks, Given, Calls, is_used, at_work, stepped}
use Rattle.node_state.specs.Step as step
use Rattle.world_model.specs.declared.event.Event.{Event}
use Rattle.world_model.specs.declared.event.Event.TheVariants as event
use Rattle.world_model.specs.World.{Node, Script, Started, World, inc_in, scripts_after, is_node, node_at, kth_between, posted, handled, traced, after_step, started_at, starts_if, node_starts, stops_if, shows_if, world_of, world_new}
use Rattle.run_safety.specs.Past.{History, EachRecord, Within, earlier, history_of}
use Rattle.run_safety.specs.Sight.{lines_with, lines_of}
use Rattle.run_safety.specs.Group.{member, Note, Line, Kept, Noted, Put, Based, Heard, kept}
use Rattle.run_safety.specs.Group as group
use Rattle.run_safety.specs.Moves.{Leads}
use Rattle.run_safety.specs.GroupLaws.{ByLeader}
use Rattle.run_safety.proofs.Lives.{whole}
use Rattle.step_refinement.specs.Ghost.{Ghost}
use Rattle.step_refinement.specs.Tied.{ShowsBody, ShowsLeader, Closed, Scene, Rests}
use Rattle.step_refinement.specs.Runs.{Reached}
use Rattle.step_refinement.proofs.Acks.{used_is}
use Rattle.step_refinement.proofs.RunLaw.{reached_rests}
use Rattle.entry_laws.specs.source_order.Meant.{DeliveriesAreNoted}
use Rattle.entry_laws.specs.source_order.Sources.{RecordedBase, PutBefore}
use Rattle.entry_laws.proofs.source_order.Steps.{looked_at, looked_by}
use Rattle.entry_laws.proofs.source_order.Law.{names_come, lookup_is_named}
use Rattle.world_laws.specs.world_answers.Answers.{Answered, goes_on, events_in, answered_after, happens_by, delivers_by_if, step_by, step_by_if, calls_by_if}
use Rattle.world_safety.specs.Events.{run_of_events, AllMayHappen}
use Rattle.world_safety.specs.Mirrors.{core_in, core_at, Mirrors}
use Rattle.world_safety.specs.Askers.{LooksUp, LookedUp, RecordLed, FirstAskersLead}
use Rattle.world_safety.proofs.Following.{IsNamed, StepOf, CameTo, started_unnamed}
use Rattle.world_safety.proofs.Runs.{every_run_is_reached}
use Rattle.world_safety.proofs.Posting.{kth_is}
use Rattle.world_safety.proofs.Moments.{front_may}
use Rattle.world_safety.proofs.Further.{goes_further, Turned, turned_at, trace_is}
use Rattle.world_safety.proofs.HeardStates.{answered_last}
use Rattle.world_safety.proofs.Turned.{onto_is}
use Rattle.row_laws.proofs.hearing.Listening.{reached_attends}
use Rattle.run_safety.proofs.SightLaws.{line_recorded, kept_line}
use Rattle.run_laws.proofs.seen_runs.Sights.{cut}

-- ---- what was sent stays sent

posted_keeps : (q : Packet) (ps : List Packet) (w : World) → Has q w.sent → Has q (fold posted w ps).sent
unfolding posted
posted_keeps q [] w h = h
posted_keeps q (p ∷ ps) w h = posted_keeps q ps (posted w p) (inr h)

posted_has : (q : Packet) (ps : List Packet) (w : World) → Has q ps → Has q (fold posted w ps).sent
unfolding posted
posted_has q [] w h = absurd h
posted_has q (p ∷ ps) w (inl e) = posted_keeps q ps (posted w p) (inl e)
posted_has q (p ∷ ps) w (inr h) = posted_has q ps (posted w p) h

module _ (q : Packet) (f : Answering) where
  step_keeps : (w : World) (scripts : List Script) (x : Core) → Has q w.sent → Has q (after_step w scripts x).sent
  unfolding after_step traced
  step_keeps w scripts x h = posted_keeps q x.sends _ h

  steps_keep : (w : World) (e : NodeEvent) (o : Option Node) → Has q w.sent → Has q (step_by_if f w e o).sent
  unfolding step_by_if step_by
  steps_keep w e None h = h
  steps_keep w e (Some x) h = step_keeps w x.scripts (stepped f x.core e) h

  starts_keep : (w : World) (n last : ℕ) (o : Option Node) → Has q w.sent → Has q (starts_if w n last o).sent
  unfolding starts_if started_at traced
  starts_keep w n last (Some x) h = h
  starts_keep w n last None h = by (last == last_u32)
    where
      by : (b : Bool) → Has q (elim b as (λ _. World) [ true ↦ w | false ↦ started_at w n (last + 1) ]).sent
      by true = h
      by false = h

  stops_keep : (w : World) (n : ℕ) (o : Option Node) → Has q w.sent → Has q (stops_if w n o).sent
  unfolding stops_if traced
  stops_keep w n None h = h
  stops_keep w n (Some x) h = h

  shows_keep : (w : World) (n : ℕ) (what : What) (o : Option Node) → Has q w.sent → Has q (shows_if w n what o).sent
  unfolding shows_if traced
  shows_keep w n what None h = h
  shows_keep w n what (Some x) h = h

  calls_keep : (w : World) (n : ℕ) (c : CallLine) (o : Option Node) → Has q w.sent → Has q (calls_by_if f w n c o).sent
  unfolding calls_by_if step_by traced
  calls_keep w n c None h = h
  calls_keep w n c (Some x) h = step_keeps w (scripts_after c x.core x.scripts) (stepped f x.core (Calls c)) h

  delivers_keep : (w : World) (a b k : ℕ) (o : Option Node) (p : Option Packet) → Has q w.sent → Has q (delivers_by_if f w a b k o p).sent
  unfolding delivers_by_if step_by handled
  delivers_keep w a b k None p h = h
  delivers_keep w a b k (Some x) None h = h
  delivers_keep w a b k (Some x) (Some p) h = step_keeps (handled w a b k) x.scripts (stepped f x.core (Given p)) h

  happens_keeps : (w : World) (e : Event) → Has q w.sent → Has q (happens_by f w e).sent
  unfolding happens_by node_starts
  happens_keeps w (event.Start n) h = starts_keep w n (inc_in (find (λ (x : Started). x.node == n) w.starts)) (node_at w n) h
  happens_keeps w (event.Stop n) h = stops_keep w n (node_at w n) h
  happens_keeps w (event.Tick n) h = steps_keep w Ticks (node_at w n) h
  happens_keeps w (event.Ask n mask) h = steps_keep w (Asks mask) (node_at w n) h
  happens_keeps w (event.Call n c) h = calls_keep w n c (node_at w n) h
  happens_keeps w (event.Show n what) h = shows_keep w n what (node_at w n) h
  happens_keeps w (event.Deliver a b k) h = delivers_keep w a b k (node_at w b) (kth_between w a b k) h
  happens_keeps w (event.Garbage n bytes) h = steps_keep w step.Garbage (node_at w n) h

-- what a node sends as it is given a packet
given_sends : (q : Packet) (f : Answering) (w : World) (a b k : ℕ) (core : Core) (p : Packet) → core_at w.nodes b ≡ Some core → kth_between w a b k ≡ Some p → Has q (stepped f core (Given p)).sends → Has q (happens_by f w (event.Deliver a b k)).sent
unfolding happens_by delivers_by_if step_by after_step node_at
given_sends q f w a b k core p up given h = by (find (is_node b) w.nodes) up
  where
    by : (o : Option Node) → core_in o ≡ Some core → Has q (delivers_by_if f w a b k o (kth_between w a b k)).sent
    by None e = absurd (cc)
    by (Some x) e =
        let is : x.core ≡ core = cc in
        subst (λ z. Has q (delivers_by_if f w a b k (Some x) z).sent) (sym given) (posted_has q (stepped f x.core (Given p)).sends _ (subst (λ (z : Core). Has q (stepped f z (Given p)).sends) (sym is) h))

-- ---- from one front of the events to a later one

-- a coordinator is the node that its view names
coordinates_first : (s : Core) → coordinates s ≡ true → (s.views.view.coord == s.views.me) ≡ true
unfolding coordinates is_coordinator
coordinates_first s e = (and_parts (s.views.view.coord == s.views.me) (s.views.view.inc == s.views.inc) e).0

node_same : (n j m i : ℕ) → Some (member n j) ≡ Some (member m i) → n ≡ m
node_same n j m i e = let z : member n j ≡ member m i = cc in ap (λ (y : Member). y.node) z

module _ (c : Config) where
  pub sent_further : (q : Packet) (rest done : List Answered) → AllMayHappen c (events_in (done ++ rest)) → Has q (answered_after c done).sent → Has q (answered_after c (done ++ rest)).sent
  sent_further q = goes_further c (λ es. Has q (answered_after c es).sent) (λ done e may h. subst (λ (w : World). Has q w.sent) (sym (answered_last c done e)) (happens_keeps q e.answers (answered_after c done) e.event h))

  trace_grows : (r : Happened) (done : List Answered) (e : Answered) → AllMayHappen c (events_in (done ++ e ∷ [])) → Has r (answered_after c done).trace → Has r (answered_after c (done ++ e ∷ [])).trace
  trace_grows r done e may h =
      let t : Turned c done e = turned_at c done e may in
      subst (λ (w : World). Has r w.trace) (sym (answered_last c done e)) (subst (Has r) (sym (t.next.trace ∙ onto_is t.next.records (answered_after c done).trace)) (append_has_right r (reverse t.next.records) (answered_after c done).trace h))

  trace_further : (r : Happened) (rest done : List Answered) → AllMayHappen c (events_in (done ++ rest)) → Has r (answered_after c done).trace → Has r (answered_after c (done ++ rest)).trace
  trace_further r = goes_further c (λ es. Has r (answered_after c es).trace) (λ done e may h. trace_grows r done e may h)

  -- ---- the table of each node

  -- whom it names a base gave, or one who asked in this view
  abbrev Named : List Answered → ℕ → Core → Type 0
  Named es n t = (g : List ℕ) (m : ℕ) → node_of g t.names ≡ Some m → RecordedBase n t.views.view g (answered_after c es).trace ⊎ LookedUp c es t.views.view g

  abbrev Tables : List Answered → Type 0
  Tables es = (n : ℕ) (t : Core) → core_at (answered_after c es).nodes n ≡ Some t → Named es n t

  looked_more : (done : List Answered) (e : Answered) (v : ViewId) (g : List ℕ) → LookedUp c done v g → LookedUp c (done ++ e ∷ []) v g
  looked_more done e v g k =
      record { before = k.before; event = k.event; rest = k.rest ++ e ∷ []; at = ap (λ z. z ++ e ∷ []) k.at ∙ append_assoc k.before (k.event ∷ k.rest) (e ∷ []); asker = k.asker; asks = k.asks }

  named_on : (done : List Answered) (e : Answered) → AllMayHappen c (events_in (done ++ e ∷ [])) → (n : ℕ) (v : ViewId) (g : List ℕ) → RecordedBase n v g (answered_after c done).trace ⊎ LookedUp c done v g → RecordedBase n v g (answered_after c (done ++ e ∷ [])).trace ⊎ LookedUp c (done ++ e ∷ []) v g
  named_on done e may n v g (inl b) = inl (record { old = b.old; len = b.len; base = b.base; there = trace_grows (happened.Base n v g b.old b.len b.base) done e may b.there })
  named_on done e may n v g (inr k) = inr (looked_more done e v g k)

  -- what a node looked up
  record Looking (s : Core) (what : NodeEvent) (g : List ℕ) (m : ℕ) : Type 0 where
    packet : Packet
    given : what ≡ Given packet
    view : ViewId
    looks_up : packet.body ≡ body.Lookup view g
    from : packet.from ≡ m
    to : packet.to ≡ s.views.me
    used : is_used s packet view ≡ true
    coordinator : coordinates s ≡ true

  looking : (s : Core) (what : NodeEvent) (g : List ℕ) (m : ℕ) → looked_by (at_work s) what ≡ Some (g, m) → Looking s what g m
  unfolding is_used coordinates frozen
  looking s (Given p) g m e = by p.body refl e
    where
      by : (b : Body) → p.body ≡ b → looked_at (at_work s) p b ≡ Some (g, m) → Looking s (Given p) g m
      by (body.Lookup u h) is e = test (p.to == s.views.me && (is_used (at_work s) p u && coordinates (at_work s))) refl e
        where
          test : (b : Bool) → (p.to == s.views.me && (is_used (at_work s) p u && coordinates (at_work s))) ≡ b → (let y : List ℕ × ℕ = (h, p.from) in if b then Some y else None) ≡ Some (g, m) → Looking s (Given p) g m
          test false q e = absurd (cc)
          test true q e =
              let a = and_parts (p.to == s.views.me) (is_used (at_work s) p u && coordinates (at_work s)) q in
              let b = and_parts (is_used (at_work s) p u) (coordinates (at_work s)) a.1 in
              let pair : Path (List ℕ × ℕ) (h, p.from) (g, m) = cc in
              let same : h ≡ g = ap (λ (z : List ℕ × ℕ). z.0) pair in
              let from : p.from ≡ m = ap (λ (z : List ℕ × ℕ). z.1) pair in
              record { packet = p; given = refl; view = u; looks_up = is ∙ ap (body.Lookup u) same; from = from; to = eqb-true p.to s.views.me a.0; used = b.0; coordinator = b.1 }
      by _ is e = absurd (cc)
  looking s _ g m e = absurd (cc)

  module _ (done : List Answered) (e : Answered) (may : AllMayHappen c (events_in (done ++ e ∷ []))) (old : Tables done) where
    t : Turned c done e
    t = turned_at c done e may

    stepped_named : (n : ℕ) (core : Core) → (x : StepOf t.scene (answered_after c done) e.event (reverse t.next.records) n core) → t.next.scene.cores n ≡ Some core → Named (done ++ e ∷ []) n core
    stepped_named n core x up g m q =
        by (names_come c t.scene t.reached t.noted n x.answers x.core x.what e.event x.up x.arises x.delivered g m (subst (λ (z : Core). node_of g z.names ≡ Some m) x.is q))
      where
        Out : ViewId → Type 0
        Out v = RecordedBase n v g (answered_after c (done ++ e ∷ [])).trace ⊎ LookedUp c (done ++ e ∷ []) v g

        there : core_at (answered_after c done).nodes n ≡ Some x.core
        there = sym (t.mirrors.cores n) ∙ x.up

        me : x.core.views.me ≡ n
        me = ((reached_attends c t.scene t.reached).up n x.core x.up).me

        looked : Looking x.core x.what g m → Out x.core.views.view
        looked k =
            let here : k.view ≡ x.core.views.view = (used_is x.core k.packet k.view k.used).0 in
            let coord : x.core.views.view.coord ≡ x.core.views.me = eqb-true x.core.views.view.coord x.core.views.me (coordinates_first x.core k.coordinator) in
            let is : x.core.views.view.coord ≡ n = coord ∙ me in
            let named : (a : ℕ) × (i : ℕ) × (e.event ≡ event.Deliver a n i) × (kth_between (answered_after c done) a n i ≡ Some k.packet) = subst (IsNamed (answered_after c done) e.event n) k.given x.named in
            inr (record {
              before = done;
              event = e;
              rest = [];
              at = refl;
              asker = m;
              asks = record {
                coordinator = x.core;
                up = subst (λ z. core_at (answered_after c done).nodes z ≡ Some x.core) (sym is) there;
                coordinates_it = k.coordinator;
                sender = named.0;
                number = named.1;
                happens = named.2 ∙ ap (λ z. event.Deliver named.0 z named.1) (sym is);
                packet = k.packet;
                given = subst (λ z. kth_between (answered_after c done) named.0 z named.1 ≡ Some k.packet) (sym is) named.3;
                to = k.to ∙ sym coord;
                from = k.from;
                looks_up = k.looks_up ∙ ap (λ z. body.Lookup z g) here;
                used = subst (λ z. is_used x.core k.packet z ≡ true) here k.used;
              };
            })

        by : (((stepped x.answers x.core x.what).views.view ≡ x.core.views.view) × ((node_of g x.core.names ≡ Some m) ⊎ (looked_by (at_work x.core) x.what ≡ Some (g, m)))) ⊎ RecordedBase (stepped x.answers x.core x.what).views.me (stepped x.answers x.core x.what).views.view g (reverse (stepped x.answers x.core x.what).records) → Out core.views.view
        by (inl z) =
            let view : x.core.views.view ≡ core.views.view = sym z.0 ∙ ap (λ (y : Core). y.views.view) (sym x.is) in
            subst Out view (⊎_elim (λ (a : node_of g x.core.names ≡ Some m). named_on done e may n x.core.views.view g (old n x.core there g m a)) (λ (a : looked_by (at_work x.core) x.what ≡ Some (g, m)). looked (looking x.core x.what g m a)) z.1)
        by (inr b) =
            let d : RecordedBase core.views.me core.views.view g (reverse core.records) = subst (λ (y : Core). RecordedBase y.views.me y.views.view g (reverse y.records)) (sym x.is) b in
            let own : core.views.me ≡ n = ((reached_attends c t.next.scene t.next.reached).up n core up).me in
            let now : Has (happened.Base n core.views.view g d.old d.len d.base) (reverse t.next.records ++ (answered_after c done).trace) = append_has_left (happened.Base n core.views.view g d.old d.len d.base) (reverse t.next.records) (answered_after c done).trace (subst (λ z. Has (happened.Base z core.views.view g d.old d.len d.base) (reverse t.next.records)) own (x.records (happened.Base core.views.me core.views.view g d.old d.len d.base) d.there)) in
            let whole : reverse t.next.records ++ (answered_after c done).trace ≡ (answered_after c (done ++ e ∷ [])).trace = sym (onto_is t.next.records (answered_after c done).trace) ∙ sym t.next.trace ∙ ap (λ (w : World). w.trace) (sym (answered_last c done e)) in
            inl (record { old = d.old; len = d.len; base = d.base; there = subst (Has (happened.Base n core.views.view g d.old d.len d.base)) whole now })

    tables_on : Tables (done ++ e ∷ [])
    tables_on n core up = came (t.next.cores n core at)
      where
        at : t.next.scene.cores n ≡ Some core
        at = t.next.mirrors.cores n ∙ subst (λ (w : World). core_at w.nodes n ≡ Some core) (answered_last c done e) up

        came : CameTo t.scene (answered_after c done) e.event (reverse t.next.records) n core → Named (done ++ e ∷ []) n core
        came (inl is) g m q = named_on done e may n core.views.view g (old n core (sym (t.mirrors.cores n) ∙ is) g m q)
        came (inr (inl x)) g m q = absurd (let z : node_of g [] ≡ Some m = subst (λ z. node_of g z ≡ Some m) (ap (λ (y : Core). y.names) x.is ∙ started_unnamed t.scene.config n x.inc) q in cc)
        came (inr (inr x)) g m q = stepped_named n core x at g m q

  -- outside of mode fixed no node is up at the beginning
  none_first : (mode : Mode) → is_fixed mode ≡ false → (n : ℕ) (core : Core) → core_at (world_of c mode).nodes n ≡ Some core → ⊥
  unfolding world_of
  none_first Fixed free n core up = cc
  none_first Asked free n core up = cc
  none_first Rings free n core up = cc

  tables_all : is_fixed c.mode ≡ false → (es : List Answered) → AllMayHappen c (events_in es) → Tables es
  unfolding answered_after world_new
  tables_all free es may = goes_further c Tables (λ done e all old. tables_on done e all old) es [] may (λ n core up g m q. absurd (none_first c.mode free n core up))

-- ---- who puts first

-- where the leader of a view is this node, each first put is its own
module _ (leads : Leads) (v : ViewId) (g : List ℕ) (leader : ℕ) (is : (n j : ℕ) → leads v ≡ Some (member n j) → n ≡ leader) where
  note_led : (x : Note) (b : Bool) (all : List Line) → ByLeader leads (kept ((if b then Noted x ∷ [] else []) ++ all)) → Unit {0} × ByLeader leads (kept all)
  note_led x true all z = (tt, z)
  note_led x false all z = (tt, z)

  -- of the lines of a record
  one_led : (r : Happened) (now : List Happened) (before : History) → ByLeader leads (kept (lines_with g (r ∷ now) before (lines_of g before))) → RecordLed leader v g now before r × ByLeader leads (kept (lines_with g now before (lines_of g before)))
  one_led (happened.Put n u h i e) now before k = by (bytes_eq h g) refl k
    where
      all : List Line
      all = lines_with g now before (lines_of g before)

      first : ((j : ℕ) × (leads u ≡ Some (member n j))) ⊎ ((m : ℕ) × (f : Entry) × Has (Put m u i f) (kept all)) → h ≡ g → u ≡ v → h ≡ g → (n ≡ leader) ⊎ PutBefore (earlier now before) v g i
      first (inl z) here at same = inl (is n z.0 (ap leads (sym at) ∙ z.1))
      first (inr z) here at same = inr (z.0, z.1, line_recorded g (Kept (Put z.0 v i z.1)) (happened.Put z.0 v g i z.1) refl (cut now before) (kept_line (Put z.0 v i z.1) all (subst (λ w. Has (Put z.0 w i z.1) (kept all)) at z.2)))

      by : (b : Bool) → bytes_eq h g ≡ b → ByLeader leads (kept ((if b then Kept (Put n u i e) ∷ [] else []) ++ all)) → RecordLed leader v g now before (happened.Put n u h i e) × ByLeader leads (kept all)
      by true q z = (λ at same. first z.0 (text_same h g q) at same, z.1)
      by false q z = (λ at same. absurd (let w : bytes_eq h g ≡ true = subst (λ y. bytes_eq h y ≡ true) same (text_self h) in cc), z)
  one_led (happened.Base n u h old len st) now before k = note_led (Based n u (record { old = old; len = len; state = st })) (bytes_eq h g) (lines_with g now before (lines_of g before)) k
  one_led (happened.Heard p u h i e ms value) now before k = note_led (Heard p u i e ms value) (bytes_eq h g) (lines_with g now before (lines_of g before)) k
  one_led (happened.Asked p r h x) now before k = note_led (group.Asked p r x) (bytes_eq h g) (lines_with g now before (lines_of g before)) k
  one_led _ now before k = (tt, k)

  within_led : (now : List Happened) (before : History) → ByLeader leads (kept (lines_with g now before (lines_of g before))) → Within (RecordLed leader v g) now before × ByLeader leads (kept (lines_of g before))
  within_led [] before k = (tt, k)
  within_led (r ∷ now) before k =
      let one = one_led r now before k in
      let rest = within_led now before one.1 in ((one.0, rest.0), rest.1)

  all_led : (h : History) → ByLeader leads (kept (lines_of g h)) → EachRecord (RecordLed leader v g) h
  all_led [] k = tt
  all_led (e ∷ before) k = let z = within_led e.records before k in (z.0, all_led before z.1)

-- ---- the law

pub first_askers_lead : (c : Config) (es : List Answered) → AllMayHappen c (events_in es) → FirstAskersLead c es
first_askers_lead c es may free v g asker k none =
    subst (EachRecord (RecordLed asker v g)) final.5 (all_led x.leads v g asker leader final.0.before (subst (λ l. ByLeader x.leads (kept l)) rests.lines (whole rests.life).firsts.first))
  where
    before_may : AllMayHappen c (events_in k.before)
    before_may = front_may c k.before (k.event ∷ k.rest) (subst (λ z. AllMayHappen c (events_in z)) k.at may)

    a : LooksUp (answered_after c k.before) k.event.event v g asker
    a = k.asks

    here : v ≡ a.coordinator.views.view
    here = (used_is a.coordinator a.packet v a.used).0

    -- nobody stood in the table
    unnamed : node_of g a.coordinator.names ≡ None
    unnamed = by (node_of g a.coordinator.names) refl
      where
        no_base : RecordedBase v.coord a.coordinator.views.view g (answered_after c k.before).trace → ⊥
        no_base b =
            let was : Has (happened.Base v.coord v g b.old b.len b.base) (answered_after c k.before).trace = subst (λ u. Has (happened.Base v.coord u g b.old b.len b.base) (answered_after c k.before).trace) (sym here) b.there in
            let now : Has (happened.Base v.coord v g b.old b.len b.base) (answered_after c (k.before ++ k.event ∷ k.rest)).trace = trace_further c (happened.Base v.coord v g b.old b.len b.base) (k.event ∷ k.rest) k.before (subst (λ z. AllMayHappen c (events_in z)) k.at may) was in
            none v.coord b.old b.len b.base (subst (Has (happened.Base v.coord v g b.old b.len b.base)) (ap (λ z. (answered_after c z).trace) (sym k.at) ∙ sym (trace_is c es)) now)

        by : (o : Option ℕ) → node_of g a.coordinator.names ≡ o → o ≡ None
        by None q = refl
        by (Some m) q =
            absurd (⊎_elim (λ (b : RecordedBase v.coord a.coordinator.views.view g (answered_after c k.before).trace). no_base b) (λ (b : LookedUp c k.before a.coordinator.views.view g). k.first (subst (λ u. LookedUp c k.before u g) (sym here) b)) (tables_all c free k.before before_may v.coord a.coordinator a.up g m q))

    -- the answer
    lead : ℕ
    lead = unwrap_or (looked_up g a.packet.from a.coordinator.names) 0

    run : (s : Scene) × (r : Reached c s) × DeliveriesAreNoted c s r × Mirrors c (answered_after c k.before) s
    run = let z = every_run_is_reached c k.before before_may in (z.0, z.1, z.7, z.4)

    was_sent : Has a.packet run.0.sent
    was_sent = kth_is (λ z. Has z run.0.sent) (answered_after c k.before) a.sender v.coord a.number a.packet run.3.paired a.given

    named : (q : Packet) × Has q (stepped k.event.answers a.coordinator (Given a.packet)).sends × (q.body ≡ body.Name a.coordinator.views.view g lead)
    named =
        lookup_is_named c run.0 run.1 run.2 v.coord k.event.answers a.coordinator a.packet (event.Deliver a.sender v.coord a.number) (run.3.cores v.coord ∙ a.up) was_sent refl v g a.to a.looks_up a.used a.coordinates_it

    sent : Has named.0 (answered_after c es).sent
    sent =
        let first : Has named.0 (goes_on (answered_after c k.before) k.event).sent = subst (λ e. Has named.0 (happens_by k.event.answers (answered_after c k.before) e).sent) (sym a.happens) (given_sends named.0 k.event.answers (answered_after c k.before) a.sender v.coord a.number a.coordinator a.packet a.up a.given named.1) in
        let next : Has named.0 (answered_after c (k.before ++ k.event ∷ [])).sent = subst (λ (w : World). Has named.0 w.sent) (sym (answered_last c k.before k.event)) first in
        let same : (k.before ++ k.event ∷ []) ++ k.rest ≡ es = append_assoc k.before (k.event ∷ []) k.rest ∙ sym k.at in
        subst (λ z. Has named.0 (answered_after c z).sent) same (sent_further c named.0 k.rest (k.before ++ k.event ∷ []) (subst (λ z. AllMayHappen c (events_in z)) (sym same) may) next)

    -- at the end of the run
    final : (s : Scene) × (r : Reached c s) × Unit {0} × Unit {0} × Mirrors c (answered_after c es) s × (s.before ≡ history_of (run_of_events c es))
    final = let z = every_run_is_reached c es may in (z.0, z.1, tt, tt, z.4, z.5)

    rests : Rests g final.0
    rests = reached_rests c final.0 final.1 g

    x : Ghost
    x = rests.ghost

    shown : (g ≡ g) → (lead ≢ 0 → ShowsLeader x a.coordinator.views.view lead) × (lead ≡ 0 → Has a.coordinator.views.view x.shut)
    shown = subst (ShowsBody x g named.0.from named.0.inc named.0.to) named.2 (rests.packets named.0 (final.4.sent named.0 sent))

    -- the asker, or nobody where the table is full
    asked : (lead ≡ 0) ⊎ (lead ≡ asker)
    asked = by (nat_le max_names (length a.coordinator.names))
      where
        by : (full : Bool) → (unwrap_or (answer_at a.packet.from full (node_of g a.coordinator.names)) 0 ≡ 0) ⊎ (unwrap_or (answer_at a.packet.from full (node_of g a.coordinator.names)) 0 ≡ asker)
        by true = inl (ap (λ o. unwrap_or (answer_at a.packet.from true o) 0) unnamed)
        by false = inr (ap (λ o. unwrap_or (answer_at a.packet.from false o) 0) unnamed ∙ a.from)

    not_closed : Closed x.nodes x.leads x.asks a.coordinator.views.view → ⊥
    not_closed z =
        let asks : x.asks ≡ true = rests.asks ∙ ap (λ (d : Config). not (is_fixed d.mode)) final.4.scene_config ∙ ap not free in
        let no : x.asks ≡ false = z.asks_not in
        absurd (let e : true ≡ false = sym asks ∙ no in cc)

    unled : lead ≡ 0 → (n j : ℕ) → x.leads v ≡ Some (member n j) → n ≡ asker
    unled full n j leads =
        ⊎_elim (λ (z : x.leads a.coordinator.views.view ≡ None). absurd (let e : None ≡ Some (member n j) = sym z ∙ ap x.leads (sym here) ∙ leads in cc)) (λ (z : Closed x.nodes x.leads x.asks a.coordinator.views.view). absurd (not_closed z)) (rests.sound.shut a.coordinator.views.view ((shown refl).1 full)).1

    leader : (n j : ℕ) → x.leads v ≡ Some (member n j) → n ≡ asker
    leader n j leads = by (lead == 0) refl asked
      where
        by : (b : Bool) → (lead == 0) ≡ b → (lead ≡ 0) ⊎ (lead ≡ asker) → n ≡ asker
        by true q o = unled (eqb-true lead 0 q) n j leads
        by false q (inl full) = unled full n j leads
        by false q (inr is) =
            let l : ShowsLeader x a.coordinator.views.view lead = (shown refl).0 (λ none. let e : (lead == 0) ≡ true = ap (λ z. z == 0) none in absurd (let f : true ≡ false = sym e ∙ q in cc)) in
            let same : Some (member n j) ≡ Some (member lead l.inc) = sym leads ∙ ap x.leads here ∙ l.leads in
            node_same n j lead l.inc same ∙ is
