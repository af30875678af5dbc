-- What is kept at each handing holds along a run.
use Rattle.std.proofs.Common.{◌≡◌, ◌⊎◌, ⊎_elim, inl, inr, ℕ, zero, suc, ◌+◌, ◌==◌, ◌≤◌, Bool, true, false, List, [], ◌∷◌, ◌++◌, length, map, remove, Option, Some, None, Result, Ok, Err, refl, sym, ap, subst, ◌∙◌, arith, append-nil, append_assoc}
use Rattle.std.specs.Prelude.{find, reverse, nat_lt, if◌then◌else◌}
use Rattle.std.specs.List.{fold}
use Rattle.rsct_packet.specs.declared.ids.ProviderId.{ProviderId}
use Rattle.rsct_packet.specs.Ids.{last_u32}
use Rattle.rsct_packet.specs.Lists.{drop_where, reverse_onto}
use Rattle.rsct_packet.specs.Mask.{nodes_of}
use Rattle.rsct_packet.specs.Providers.{same_provider}
use Rattle.rsct_packet.specs.Search.{Has, insert_before}
use Rattle.packet_bodies.specs.declared.body.What.{What}
use Rattle.proposal_core.specs.declared.proposal.Proposal.{Proposal}
use Rattle.rsct_packet.proofs.HasLaws.{has_append, has_map, append_has_right, has_filter, filter_has, find_has}
use Rattle.client_callbacks.specs.Handed.{Handed}
use Rattle.session_state.specs.declared.fault.GsFault.{GsFault}
use Rattle.session_state.specs.declared.state.Provider.{Provider}
use Rattle.session_state.specs.declared.state.Session.{Session}
use Rattle.session_state.specs.declared.state.SessionState.{SessionState}
use Rattle.session_state.specs.State.{is_provider, provider_of, client_token, client_place, place_of}
use Rattle.session_state.specs.Calls.{inited, new_provider, removed_at}
use Rattle.node_state.specs.declared.call.CallLine.{CallLine}
use Rattle.node_state.specs.declared.call.CallLine.TheVariants as call
use Rattle.node_state.specs.declared.config.Config.{Config}
use Rattle.node_state.specs.declared.config.Mode.{Mode}
use Rattle.node_state.specs.declared.config.Mode.TheVariants.{Fixed, Asked, Rings}
use Rattle.node_state.specs.declared.happened.Happened.{Happened}
use Rattle.node_state.specs.declared.happened.Happened.TheVariants as happened
use Rattle.node_state.specs.declared.packet.Packet.{Packet}
use Rattle.node_state.specs.declared.state.Core.{Core}
use Rattle.node_state.specs.Applying.{level_set}
use Rattle.node_state.specs.Calls.{take_call}
use Rattle.node_state.specs.Handed.{is_handed, handed_in, Logged}
use Rattle.node_state.specs.HandOn.{Answering}
use Rattle.node_state.specs.State.{with_sessions}
use Rattle.node_state.specs.Step.{NodeEvent, Ticks, Asks, Given, Calls, at_work, stepped, started, own_rings, first_view, first_members, ring_record}
use Rattle.node_state.specs.Step as step
use Rattle.node_calls.specs.Calling.{clients_with}
use Rattle.view_state.specs.Views.{views_new}
use Rattle.entry_delivery.specs.Received.{WereHanded, Handing, IsFor, AreFor, told_by}
use Rattle.node_core.specs.Node.{NodeView}
use Rattle.node_core.specs.Event.{called}
use Rattle.world_model.specs.declared.event.Event.{Event}
use Rattle.world_model.specs.declared.event.Event.TheVariants as event
use Rattle.world_model.specs.World.{Script, Node, World, node_at, is_node, nodes_with, kth_between, handled, traced, after_step, started_at, starts_if, node_starts, stops_if, shows_if, scripts_after, empty_world, world_of, world_new}
use Rattle.world_laws.specs.world_runs.Runs.{Recorded}
use Rattle.world_laws.specs.world_answers.Answers.{Answered, step_by, step_by_if, calls_by_if, delivers_by_if, happens_by, goes_on, events_in, answered_after, answered_records}
use Rattle.run_safety.specs.Past.{History, records_of, history_of}
use Rattle.run_safety.specs.Stays.{client_of}
use Rattle.run_safety.specs.Group.{Noted}
use Rattle.run_safety.specs.Group as group
use Rattle.step_refinement.specs.Ghost.{asking}
use Rattle.step_refinement.specs.Tied.{Scene, NodeIsIf, Rests, Tied, opening_of}
use Rattle.step_refinement.specs.Runs.{Reached}
use Rattle.step_refinement.proofs.Begins.{begin_tied}
use Rattle.step_refinement.proofs.Calls.{call_is_tied}
use Rattle.step_refinement.proofs.RunLaw.{reached_rests}
use Rattle.step_refinement.proofs.SessionLaws.{provider_same}
use Rattle.row_laws.proofs.failed_rows.Asked.{join_carried}
use Rattle.row_laws.proofs.failed_rows.Fitting.{asked_seen}
use Rattle.row_laws.proofs.failed_rows.Joining.{call_now}
use Rattle.row_laws.proofs.failed_rows.Living.{Slimmer}
use Rattle.row_laws.proofs.failed_rows.Origin.{root_of}
use Rattle.row_laws.proofs.hearing.Listening.{steps_change, reached_attends}
use Rattle.provider_laws.specs.leaving.Scenes.{Recounted}
use Rattle.provider_laws.proofs.leaving.Calling.{CallSays, Fit, call_fits}
use Rattle.provider_laws.proofs.leaving.Keeping.{Kept, KeptIf, Clean}
use Rattle.provider_laws.proofs.leaving.Law.{recounted_ran, clean}
use Rattle.provider_laws.proofs.leaving.Left.{left_stepped}
use Rattle.provider_laws.proofs.single_casts.Adding.{does_me}
use Rattle.run_laws.proofs.seen_runs.Once.{safe_entries_asked}
use Rattle.world_safety.specs.Events.{run_of_events, AllMayHappen}
use Rattle.world_safety.specs.HeardStates.{stepping}
use Rattle.world_safety.specs.Mirrors.{Mirrors, core_in}
use Rattle.world_safety.specs.Scripts.{IsSafe, history_in}
use Rattle.world_safety.proofs.HeardStates.{answered_last, heard_states_are_folds}
use Rattle.world_safety.proofs.Moments.{front_may}
use Rattle.world_safety.proofs.Posting.{posted_nodes}
use Rattle.world_safety.proofs.Runs.{every_run_is_reached}
use Rattle.world_safety.proofs.Scripts.{every_answer_is_safe}
use Rattle.world_safety.proofs.SteadyRuns.{history_records}
use Rattle.world_safety.proofs.Traces.{run_has_the_records}
use Rattle.world_safety.proofs.Turned.{back_again}
use Rattle.run_hands.specs.Hands.{ClientLogs, Logs, LogsStand, is_log, logs_of, logs_with, logs_called_by, logs_called, given_by, StepHands, NodeHands, DeliveryHands, logs_begun, logs_started, last_start, EventHands, Stood, RunHands, empty_logs}
use Rattle.run_hands.specs.Logs.{OfEach}
use Rattle.hearing_laws.specs.Walk.{Hearing, heard_after, heard_by}
use Rattle.hearing_laws.proofs.Hearing.{Latest, latest, Hears, hears}
use Rattle.hand_laws.specs.Hearers.{heard_in, heard_then, IsUncast, IsKeptAlong, HoldsAlong, LogsHaveAll}
use Rattle.hand_laws.proofs.Sessions.{placed, have_fewer}
use Rattle.hand_laws.proofs.Calls.{HasAll, call_has}
use Rattle.hand_laws.proofs.Adding.{heard_with, heard_onto, heard_nothing, heard_handed, heard_told, IsSilent, heard_silent, none_with, handed_none, handed_uncast, onto_has}
use Rattle.hand_laws.proofs.Handings.{told_has, handings_keep}
use Rattle.hand_laws.proofs.Nodes.{AllNodes, Found, found, found_with, nodes_on, nodes_changed, nodes_dropped, nodes_begun, of_nodes, once_found}

-- ---- logs that a call leaves

added_each : (P : List Logged → Type 0) → P [] → (logs : List (List Logged)) → OfEach P logs → OfEach P (logs ++ [] ∷ [])
added_each P empty [] k = (empty, tt)
added_each P empty (log ∷ logs) k = (k.0, added_each P empty logs k.1)

without_each : (P : List Logged → Type 0) (i : ℕ) (logs : List (List Logged)) → OfEach P logs → OfEach P (remove logs i)
without_each P zero [] k = k
without_each P (suc i) [] k = k
without_each P zero (log ∷ logs) k = k.1
without_each P (suc i) (log ∷ logs) k = (k.0, without_each P i logs k.1)

called_each : (P : List Logged → Type 0) → P [] → (s : Core) (ev : NodeEvent) (logs : List (List Logged)) → OfEach P logs → OfEach P (logs_called s ev logs)
called_each P empty s (Calls (call.Init node name votes)) logs k = by (inited s.sessions name)
  where
    by : (r : Result SessionState GsFault) → OfEach P (clients_with [] logs r)
    by (Ok u) = added_each P empty logs k
    by (Err f) = k
called_each P empty s (Calls (call.Goodbye client)) logs k = by (client_place s.sessions (client_token s.sessions client))
  where
    by : (o : Option ℕ) → OfEach P (removed_at o logs)
    by None = k
    by (Some i) = without_each P i logs k
called_each P empty s (Calls _) logs k = k
called_each P empty s _ logs k = k

-- a call reads nothing of what was sent and recorded
called_logs : (s : Core) (d : CallLine) (logs : List (List Logged)) → logs_called_by (at_work s) d logs ≡ logs_called_by s d logs
called_logs s (call.Init node name votes) logs = refl
called_logs s (call.Goodbye client) logs = refl
called_logs s _ logs = refl

-- ---- between two events

module _ (P : List Logged → Type 0) (K : Happened → Type 0) where
  -- the logs of a node
  abbrev HasLogs : List Happened → Core → List (List Logged) → Type 0
  HasLogs tr s logs = HasAll (λ p. heard_by p tr) s.sessions logs × OfEach P logs

  abbrev State : List Node → List Happened → Logs → Type 0
  State nodes tr logs = AllNodes (HasLogs tr) nodes logs × ((r : Happened) → Has r tr → K r)

  -- nothing was heard of them, and no more of anybody
  has_on : (tr new : List Happened) (s : Core) (logs : List (List Logged)) → ((p : ProviderId) (i : ℕ) → place_of s.sessions p ≡ Some i → heard_by p new ≡ heard_by p tr) → ((p : ProviderId) → heard_by p new ≡ [] → heard_by p tr ≡ []) → HasLogs tr s logs → HasLogs new s logs
  has_on tr new s logs same none k = (
    record {
      aligned = k.0.aligned;
      all = λ p i log place at. k.0.all p i log place at ∙ sym (same p i place);
      none = λ i log at p q. k.0.none i log at p (none p q);
    },
    k.1,
  )

  none_onto : (rs tr : List Happened) (p : ProviderId) → heard_by p (reverse_onto rs tr) ≡ [] → heard_by p tr ≡ []
  none_onto rs tr p q = none_with p rs (heard_by p tr) (sym (heard_onto p rs tr) ∙ q)

  -- an event that hands nothing
  quiet_keeps : (uncast : (r : Happened) → IsUncast r → K r) (nodes : List Node) (rs tr : List Happened) (logs : Logs) → handed_in rs ≡ [] → State nodes tr logs → State nodes (reverse_onto rs tr) logs
  quiet_keeps uncast nodes rs tr logs none k =
      (nodes_on (HasLogs tr) (HasLogs (reverse_onto rs tr)) nodes logs (λ x i ls a. has_on tr (reverse_onto rs tr) x.core ls (λ p j place. same p) (λ p q. none_onto rs tr p q) a) k.0, λ r h. ks r (onto_has r rs tr h))
    where
      same : (p : ProviderId) → heard_by p (reverse_onto rs tr) ≡ heard_by p tr
      same p = heard_onto p rs tr ∙ heard_handed p rs (heard_by p tr) ∙ ap (heard_with p (heard_by p tr)) none ∙ heard_nothing p (heard_by p tr)

      ks : (r : Happened) → Has r rs ⊎ Has r tr → K r
      ks r (inl i) = uncast r (handed_uncast r (handed_none rs r none i))
      ks r (inr i) = k.1 r i

-- what is not there is not dropped
undropped : {A : Type 0} (test : A → Bool) (xs : List A) → find test xs ≡ None → drop_where test xs ≡ xs
undropped test [] e = refl
undropped {A = A} test (x ∷ xs) e = by (λ z. undropped test xs z) (test x) e
  where
    by : (find test xs ≡ None → drop_where test xs ≡ xs) → (b : Bool) → (if b then Some x else find test xs) ≡ None → elim b as (λ _. List A) [ true ↦ xs | false ↦ x ∷ drop_where test xs ] ≡ x ∷ xs
    by rest true z = absurd (cc)
    by rest false z = ap (λ ys. x ∷ ys) (rest z)

-- ---- who stands for the logs of a node

stood_of : {C : Type 0} (R : C → List Handed → Type 0) (ns : List (NodeView C)) (logs : Logs) (n : ℕ) (ls : List (List Logged)) → LogsStand R ns logs → Found n logs ls → (clients : List C) × WereHanded R clients ls
stood_of R ns [] n ls k f = absurd (let e = f.1 in cc)
stood_of R [] (l ∷ logs) n ls k f = absurd k
stood_of {C = C} R (x ∷ ns) (l ∷ logs) n ls k f = by (λ z. stood_of R ns logs n ls k.2 z) (is_log n l) f.1
  where
    by : (Found n logs ls → (clients : List C) × WereHanded R clients ls) → (b : Bool) → (if b then Some l else find (is_log n) logs) ≡ Some f.0 → (clients : List C) × WereHanded R clients ls
    by rest true q = let same : l ≡ f.0 = cc in (x.clients, subst (WereHanded R x.clients) (ap (λ (z : ClientLogs). z.logs) same ∙ f.2) k.1)
    by rest false q = rest (f.0, q, f.2)

-- ---- a run so far

module _ (c : Config) (es : List Answered) (may : AllMayHappen c (events_in es)) where
  abbrev w : World
  w = answered_after c es

  safe : IsSafe c es (answered_records c es)
  safe = every_answer_is_safe c es may

  abbrev scene : Scene
  scene = (every_run_is_reached c es may).0

  reached : Reached c scene
  reached = (every_run_is_reached c es may).1

  mirrors : Mirrors c w scene
  mirrors = (every_run_is_reached c es may).4

  before_is : scene.before ≡ history_of (run_of_events c es)
  before_is = (every_run_is_reached c es may).5

  recounted : Recounted c scene
  recounted = (every_run_is_reached c es may).6

  trace_is : records_of scene.before ≡ w.trace
  unfolding answered_records
  trace_is = ap records_of before_is ∙ (history_records (run_of_events c es) ∙ (ap reverse (run_has_the_records c es) ∙ back_again w.trace))

  rests : (g : List ℕ) → Rests g scene
  rests g = reached_rests c scene reached g

  is_clean : Clean scene
  is_clean = clean c scene (recounted_ran c scene recounted)

  -- what a node's providers asked for has numbers that were given
  module _ (n : ℕ) (s : Core) (up : scene.cores n ≡ Some s) where
    here : NodeIsIf scene.config (rests []).ghost [] n (scene.incs n) (Some s)
    here = subst (NodeIsIf scene.config (rests []).ghost [] n (scene.incs n)) up ((rests []).nodes n)

    own : (x : Provider) → Has x s.sessions.providers → x.provider.node ≡ n
    own x i = (here.0.owes.providers x i).0

    kept : Kept scene.before s
    kept = subst (KeptIf scene.before) up (is_clean.nodes n)

    owner : (x : Provider) → Has x s.sessions.providers → (y : Session) × Has y s.sessions.sessions × (y.token.number ≡ x.client.number)
    owner x i = let o = kept.owners.owner x i in (o.0, o.1, o.2)

    one : (a b : Provider) → Has a s.sessions.providers → Has b s.sessions.providers → a.provider ≡ b.provider → a.client ≡ b.client
    one = ((rests []).turns n s up).owner

    -- whoever joins now was never heard
    fresh : (instance : ℕ) → heard_by (new_provider s.sessions instance) w.trace ≡ []
    fresh instance = by (heard_by p w.trace) refl
      where
        p : ProviderId
        p = new_provider s.sessions instance

        me : p.node ≡ n
        me = ((reached_attends c scene reached).up n s up).at.me

        inc : p.inc ≡ scene.incs n
        inc = ((reached_attends c scene reached).up n s up).at.inc_is

        given : (g : List ℕ) (x : Proposal) → Has (happened.Asked p p.join g x) (records_of scene.before) → p.join ≤ s.sessions.last_request
        given g x h =
            let k : Rests g scene = rests g in
            let there : Has (asking p p.join g) (k.ghost).asked = k.sound.asked p p.join x (subst (Has (Noted (group.Asked p p.join x))) (sym k.lines) (asked_seen p p.join g x scene.before h)) in
            let node : NodeIsIf scene.config k.ghost g n (scene.incs n) (Some s) = subst (NodeIsIf scene.config k.ghost g n (scene.incs n)) up (k.nodes n) in
            node.0.owes.given (asking p p.join g) there me (inc ∙ sym node.2)

        unheard : (a : Hearing) (rest : List Hearing) → heard_by p (records_of (history_in c es)) ≡ a ∷ rest → ⊥
        unheard a rest q =
            let rs : List Happened = records_of (history_in c es) in
            let l : Latest p rs a rest = latest p rs a rest q in
            let r : Happened = happened.Heard p a.view a.group a.place a.entry l.members l.value in
            let h : Has r rs = subst (Has r) (sym l.is) (append_has_right r l.newer (r ∷ l.older) (inl refl)) in
            let k : Hears p a.view a.group a.place a.entry rs = hears p a.view a.group a.place a.entry l.members l.value rs safe.seen h in
            let asked = safe_entries_asked (opening_of c) (history_in c es) safe.safe p.node k.view a.group k.place k.entry p p.join k.begun (join_carried p k.entry k.joins) in
            let le : s.sessions.last_request + 1 ≤ s.sessions.last_request = given a.group asked.0 (subst (λ (g : History). Has (happened.Asked p p.join a.group asked.0) (records_of g)) (sym before_is) asked.1) in
            absurd (omega (arith, le))

        by : (hs : List Hearing) → heard_by p w.trace ≡ hs → heard_by p w.trace ≡ []
        by [] q = q
        by (a ∷ rest) q = absurd (unheard a rest (ap (heard_by p) (ap records_of (sym before_is) ∙ trace_is) ∙ q))

  -- ---- the call of a step

  module _ (n : ℕ) (s : Core) (up : scene.cores n ≡ Some s) where
    abbrev H : ProviderId → List Hearing
    H p = heard_by p w.trace

    root_same : (ev : NodeEvent) → root_of (at_work s) ev ≡ called (at_work s) ev
    root_same Ticks = refl
    root_same (Asks mask) = refl
    root_same (Given p) = refl
    root_same (Calls d) = refl
    root_same step.Garbage = refl

    called_has : (ev : NodeEvent) (logs : List (List Logged)) → HasAll H s.sessions logs → HasAll H (called (at_work s) ev).sessions (logs_called s ev logs)
    called_has (Calls d) logs k = subst (HasAll H (take_call (at_work s) d).sessions) (called_logs s d logs) (call_has H (at_work s) (owner n s up) (one n s up) (fresh n s up) logs k d)
    called_has Ticks logs k = k
    called_has (Asks mask) logs k = k
    called_has (Given p) logs k = k
    called_has step.Garbage logs k = k

    called_tied : (ev : NodeEvent) → Tied [] scene n (called (at_work s) ev)
    called_tied (Calls d) = call_is_tied d [] scene n (at_work s) (begin_tied [] scene n s up (rests []))
    called_tied Ticks = begin_tied [] scene n s up (rests [])
    called_tied (Asks mask) = begin_tied [] scene n s up (rests [])
    called_tied (Given p) = begin_tied [] scene n s up (rests [])
    called_tied step.Garbage = begin_tied [] scene n s up (rests [])

    called_owner : (ev : NodeEvent) (x : Provider) → Has x (called (at_work s) ev).sessions.providers → (y : Session) × Has y (called (at_work s) ev).sessions.sessions × (y.token.number ≡ x.client.number)
    called_owner (Calls d) x i =
        let o = (call_now (λ p. client_of p scene.before) d (at_work s) refl ((rests []).turns n s up).numbered (kept n s up).owners).owner x i in
        (o.0, o.1, o.2)
    called_owner Ticks x i = owner n s up x i
    called_owner (Asks mask) x i = owner n s up x i
    called_owner (Given p) x i = owner n s up x i
    called_owner step.Garbage x i = owner n s up x i

    -- a ballot that a call gives is nothing that is heard
    given_silent : (ev : NodeEvent) (r : Happened) → Has r (given_by (at_work s) ev) → IsSilent r
    given_silent ev r h = by ev h
      where
        says : (t : SessionState) (r : Happened) → CallSays t r → IsSilent r
        says t (happened.Heard p v g i e members value) k = k
        says t _ k = tt

        by : (ev : NodeEvent) → Has r (given_by (at_work s) ev) → IsSilent r
        by (Calls (call.Vote client g vote value)) i =
            let d : CallLine = call.Vote client g vote value in
            let fit : Fit (take_call (at_work s) d) = call_fits d (at_work s) refl (record { says = λ r i. absurd i; apart = (kept n s up).apart }) in
            says (take_call (at_work s) d).sessions r (fit.says r i)
        by (Calls _) i = absurd i
        by _ i = absurd i

    -- who hears is of the node
    module _ (ev : NodeEvent) where
      abbrev root : SessionState
      root = (called (at_work s) ev).sessions

      live_own : (p : ProviderId) → (provider_of root p ≡ None → ⊥) → p.node ≡ n
      unfolding provider_of
      live_own p live = by (find (is_provider p) root.providers) refl
        where
          by : (o : Option Provider) → find (is_provider p) root.providers ≡ o → p.node ≡ n
          by None q = absurd (live q)
          by (Some x) q =
              let h = find_has (is_provider p) root.providers x q in
              let same : x.provider ≡ p = provider_same x.provider p h.1 in
              ap (λ (z : ProviderId). z.node) (sym same) ∙ ((called_tied ev).own.0.owes.providers x h.0).0

      others_then : (p : ProviderId) → (p.node ≡ n → ⊥) → (hs : List Handing) → AreFor root hs → (old : List Hearing) → heard_then p old hs ≡ old
      others_then p other [] k old = refl
      others_then p other (h ∷ hs) k old = ap (λ ks. heard_then p ks hs) (by h.what k.0) ∙ others_then p other hs k.1 old
        where
          by : (r : Happened) → IsFor root h.place r → heard_after p r old ≡ old
          by (happened.Heard q v g i e members value) a = of (same_provider q p) refl
            where
              of : (b : Bool) → same_provider q p ≡ b → (if b then record { view = v; group = g; place = i; entry = e } ∷ old else old) ≡ old
              of false z = refl
              of true z = absurd (other (ap (λ (y : ProviderId). y.node) (sym (provider_same q p z)) ∙ live_own q a.1))
          by _ a = refl

  -- ---- an event more

  module _ {C : Type 0} (R : C → List Handed → Type 0) (all : List Answered) (P : List Logged → Type 0) (K : Happened → Type 0) (keeps : IsKeptAlong R c all P K) (fs : List Answered) (e : Answered) (is : all ≡ es ++ e ∷ fs) (may_next : AllMayHappen c (events_in (es ++ e ∷ []))) (rs : List Happened) (recorded : Recorded w (answered_after c (es ++ e ∷ [])) rs) (old mid : Logs) (stood : Stood R mid) (state : State P K w.nodes w.trace old) where
    abbrev new : List Happened
    new = reverse_onto rs w.trace

    quiet : handed_in rs ≡ [] → State P K w.nodes new old
    quiet none = quiet_keeps P K keeps.uncast w.nodes rs w.trace old none state

    module _ (n : ℕ) (x : Node) (at : find (is_node n) w.nodes ≡ Some x) (steps : stepping e.event ≡ Some n) (up_node : node_at w n ≡ Some x) (ev : NodeEvent) (f : Answering) (scripts : List Script) (ls : List (List Logged)) (h : StepHands x.core ev rs (logs_of n old) ls) (mid_is : mid ≡ logs_with n ls old) where
      abbrev s : Core
      s = x.core

      up : scene.cores n ≡ Some s
      up = mirrors.cores n ∙ ap core_in at

      there : HasLogs P K w.trace s (logs_of n old) × Found n old (logs_of n old)
      there = found (HasLogs P K w.trace) n x w.nodes old state.0 at

      standing : (clients : List C) × WereHanded R clients ls
      standing = stood_of R stood.0 mid n ls stood.1 (subst (λ ms. Found n ms ls) (sym mid_is) (found_with n ls (logs_of n old) old there.1))

      walked : HasAll (λ p. heard_then p (heard_by p w.trace) h.handings) (called (at_work s) ev).sessions ls × OfEach P ls × ((b : Handing) → Has b h.handings → K b.what)
      walked =
          handings_keep R c all P K keeps es fs e is n x rs ev recorded (heard_states_are_folds c es e n x rs may_next steps up_node recorded) (given_silent n s up ev) state.1 (called (at_work s) ev).sessions (called_owner n s up ev) standing.0 ls standing.1.stand standing.1.logs [] h.handings h.told h.stated h.owned (λ b i. absurd i) (logs_called s ev (logs_of n old))
          (called_has n s up ev (logs_of n old) there.0.0) (called_each P keeps.empty s ev (logs_of n old) there.0.1) (sym h.logs)

      heard_new : (p : ProviderId) → heard_by p new ≡ heard_then p (heard_by p w.trace) h.handings
      heard_new p =
          heard_onto p rs w.trace ∙ heard_handed p rs (heard_by p w.trace) ∙ ap (heard_with p (heard_by p w.trace)) h.told
          ∙ heard_silent p (handed_in (given_by (at_work s) ev)) (told_by h.handings) (heard_by p w.trace) (λ r i. given_silent n s up ev r (has_filter is_handed r (given_by (at_work s) ev) i).0)
          ∙ heard_told p h.handings (heard_by p w.trace)

      abbrev y : Core
      y = stepped f s ev

      slim : Slimmer (called (at_work s) ev).sessions y.sessions
      slim = subst (λ (r : Core). Slimmer r.sessions y.sessions) (root_same n s up ev) (left_stepped f s ev).slim.sessions

      own_logs : HasLogs P K new y ls
      own_logs =
          let k : HasAll (λ p. heard_then p (heard_by p w.trace) h.handings) y.sessions ls = have_fewer heard_in [] (λ p. refl) (λ p. heard_then p (heard_by p w.trace) h.handings) (called (at_work s) ev).sessions y.sessions ls slim.names slim.provs (called_tied n s up ev).turns.own.owner (λ p q z. provider_same p q z) walked.0 in (
            record {
              aligned = k.aligned;
              all = λ p i log place at. k.all p i log place at ∙ sym (heard_new p);
              none = λ i log at p q. k.none i log at p (sym (heard_new p) ∙ q);
            },
            walked.1,
          )

      me : y.views.me ≡ n
      me = does_me (at_work s) y (steps_change c scene reached n s up f ev) ∙ ((reached_attends c scene reached).up n s up).me

      else_logs : (z : Node) → Has z w.nodes → (z.core.views.me ≡ n → ⊥) → (logs : List (List Logged)) → HasLogs P K w.trace z.core logs → HasLogs P K new z.core logs
      else_logs z i other logs k = has_on P K w.trace new z.core logs same (λ p q. none_onto P K rs w.trace p q) k
        where
          up_z : scene.cores z.core.views.me ≡ Some z.core
          up_z = mirrors.cores z.core.views.me ∙ ap core_in (once_found w.nodes z mirrors.once i)

          same : (p : ProviderId) (j : ℕ) → place_of z.core.sessions p ≡ Some j → heard_by p new ≡ heard_by p w.trace
          same p j place =
              let a = placed heard_in [] (λ q. refl) (λ q. heard_by q w.trace) z.core.sessions p j place in
              let b = find_has (is_provider p) z.core.sessions.providers a.0 a.1 in
              let node : p.node ≡ z.core.views.me = ap (λ (q : ProviderId). q.node) (sym (provider_same (a.0).provider p b.1)) ∙ own z.core.views.me z.core up_z a.0 b.0 in
              heard_new p ∙ others_then n s up ev p (λ q. other (sym node ∙ q)) h.handings h.owned (heard_by p w.trace)

      said : (r : Happened) → Has r new → K r
      said r i = by (onto_has r rs w.trace i)
        where
          handed : Has r (handed_in (given_by (at_work s) ev)) ⊎ Has r (told_by h.handings) → K r
          handed (inl j) = keeps.given (at_work s) ev refl r (has_filter is_handed r (given_by (at_work s) ev) j).0
          handed (inr j) = let z = told_has r h.handings j in subst K (sym z.2) (walked.2 z.0 z.1)

          of : (b : Bool) → is_handed r ≡ b → Has r rs → K r
          of false q j = keeps.uncast r (handed_uncast r q)
          of true q j = handed (has_append r (handed_in (given_by (at_work s) ev)) (told_by h.handings) (subst (Has r) h.told (filter_has is_handed r rs j q)))

          by : Has r rs ⊎ Has r w.trace → K r
          by (inl j) = of (is_handed r) refl j
          by (inr j) = state.1 r j

      step_keeps : State P K (nodes_with (record { core = y; scripts = scripts }) w.nodes) new mid
      step_keeps =
          subst (State P K (nodes_with (record { core = y; scripts = scripts }) w.nodes) new) (sym mid_is)
          (nodes_changed (HasLogs P K w.trace) (HasLogs P K new) n (record { core = y; scripts = scripts }) ls me own_logs w.nodes old mirrors.once else_logs state.0, said)

    nothing_keeps : (nodes : List Node) → nodes ≡ w.nodes → handed_in rs ≡ [] → mid ≡ old → State P K nodes new mid
    nothing_keeps nodes same none q = subst (λ (z : List Node × Logs). State P K z.0 new z.1) (λ i. (sym same i, sym q i)) (quiet none)

    node_keeps : (n : ℕ) (ev : NodeEvent) (f : Answering) (o : Option Node) → node_at w n ≡ o → stepping e.event ≡ Some n → NodeHands o n ev rs old mid → State P K (step_by_if f w ev o).nodes new mid
    unfolding step_by_if step_by after_step traced node_at
    node_keeps n ev f None at steps h = nothing_keeps w.nodes refl h.0 h.1
    node_keeps n ev f (Some x) at steps h =
        subst (λ ns. State P K ns new mid) (sym (posted_nodes (stepped f x.core ev).sends _)) (step_keeps n x at steps at ev f x.scripts h.0 h.1 h.2)

    call_keeps : (n : ℕ) (d : CallLine) (f : Answering) (o : Option Node) → node_at w n ≡ o → stepping e.event ≡ Some n → NodeHands o n (Calls d) rs old mid → State P K (calls_by_if f w n d o).nodes new mid
    unfolding calls_by_if step_by after_step traced node_at
    call_keeps n d f None at steps h = nothing_keeps w.nodes refl h.0 h.1
    call_keeps n d f (Some x) at steps h =
        subst (λ ns. State P K ns new mid) (sym (posted_nodes (stepped f x.core (Calls d)).sends _)) (step_keeps n x at steps at (Calls d) f (scripts_after d x.core x.scripts) h.0 h.1 h.2)

    delivery_keeps : (a b k : ℕ) (f : Answering) (o : Option Node) (p : Option Packet) → node_at w b ≡ o → stepping e.event ≡ Some b → DeliveryHands o p b rs old mid → State P K (delivers_by_if f w a b k o p).nodes new mid
    unfolding delivers_by_if step_by after_step traced handled node_at
    delivery_keeps a b k f None p at steps h = nothing_keeps w.nodes refl h.0 h.1
    delivery_keeps a b k f (Some x) None at steps h = nothing_keeps w.nodes refl h.0 h.1
    delivery_keeps a b k f (Some x) (Some p) at steps h =
        subst (λ ns. State P K ns new mid) (sym (posted_nodes (stepped f x.core (Given p)).sends _)) (step_keeps b x at steps at (Given p) f x.scripts h.0 h.1 h.2)

    -- a node that starts has no sessions
    bare_logs : (tr : List Happened) (n j : ℕ) → HasLogs P K tr (started w.config n j) []
    unfolding started with_sessions level_set place_of provider_of
    bare_logs tr n j = (record { aligned = refl; all = λ p i log place at. absurd (cc); none = λ i log at p q. absurd (cc) }, tt)

    me_started : (n j : ℕ) → (started w.config n j).views.me ≡ n
    unfolding started with_sessions views_new
    me_started n j = refl

    start_keeps : (n : ℕ) (o : Option Node) → handed_in rs ≡ [] → mid ≡ logs_started o n (last_start w n) old → State P K (starts_if w n (last_start w n) o).nodes new mid
    unfolding starts_if started_at traced
    start_keeps n (Some x) none q = nothing_keeps w.nodes refl none q
    start_keeps n None none q = by (last_start w n == last_u32) q
      where
        by : (b : Bool) → mid ≡ elim b as (λ _. Logs) [ true ↦ old | false ↦ logs_begun n old ] → State P K (elim b as (λ _. World) [ true ↦ w | false ↦ started_at w n (last_start w n + 1) ]).nodes new mid
        by true z = nothing_keeps w.nodes refl none z
        by false z =
            let y : Node = record { core = started w.config n (last_start w n + 1); scripts = [] } in
            let k = quiet none in
            subst (State P K (insert_before (λ (m : Node). nat_lt n m.core.views.me) y w.nodes) new) (sym z) (nodes_begun (HasLogs P K new) n y (me_started n (last_start w n + 1)) (bare_logs new n (last_start w n + 1)) w.nodes old k.0, k.1)

    stop_keeps : (n : ℕ) (o : Option Node) → node_at w n ≡ o → handed_in rs ≡ [] → mid ≡ drop_where (is_log n) old → State P K (stops_if w n o).nodes new mid
    unfolding stops_if traced node_at
    stop_keeps n (Some x) at none q =
        let k = quiet none in
        subst (State P K (drop_where (is_node n) w.nodes) new) (sym q) (nodes_dropped (HasLogs P K new) n w.nodes old k.0, k.1)
    stop_keeps n None at none q =
        let k = quiet none in
        subst (State P K w.nodes new) (sym q) (subst (λ ns. AllNodes (HasLogs P K new) ns (drop_where (is_log n) old)) (undropped (is_node n) w.nodes at) (nodes_dropped (HasLogs P K new) n w.nodes old k.0), k.1)

    show_keeps : (n : ℕ) (what : What) (o : Option Node) → handed_in rs ≡ [] → mid ≡ old → State P K (shows_if w n what o).nodes new mid
    unfolding shows_if traced
    show_keeps n what (Some x) none q = nothing_keeps w.nodes refl none q
    show_keeps n what None none q = nothing_keeps w.nodes refl none q

    event_keeps : (ev : Event) (f : Answering) → ev ≡ e.event → EventHands w ev rs old mid → State P K (happens_by f w ev).nodes new mid
    unfolding happens_by node_starts
    event_keeps (event.Start n) f same h = start_keeps n (node_at w n) h.0 h.1
    event_keeps (event.Stop n) f same h = stop_keeps n (node_at w n) refl h.0 h.1
    event_keeps (event.Tick n) f same h = node_keeps n Ticks f (node_at w n) refl (ap stepping (sym same)) h
    event_keeps (event.Ask n mask) f same h = node_keeps n (Asks mask) f (node_at w n) refl (ap stepping (sym same)) h
    event_keeps (event.Call n d) f same h = call_keeps n d f (node_at w n) refl (ap stepping (sym same)) h
    event_keeps (event.Show n what) f same h = show_keeps n what (node_at w n) h.0 h.1
    event_keeps (event.Deliver a b k) f same h = delivery_keeps a b k f (node_at w b) (kth_between w a b k) refl (ap stepping (sym same)) h
    event_keeps (event.Garbage n bytes) f same h = node_keeps n step.Garbage f (node_at w n) refl (ap stepping (sym same)) h

-- ---- the beginning

-- nodes without sessions, and records without ballots
record Bare (w : World) : Type 0 where
  nodes : (x : Node) → Has x w.nodes → (x.core.sessions.sessions ≡ []) × (x.core.sessions.providers ≡ [])
  records : (r : Happened) → Has r w.trace → IsUncast r

inserted_has : {A : Type 0} (test : A → Bool) (y : A) (xs : List A) (x : A) → Has x (insert_before test y xs) → (x ≡ y) ⊎ Has x xs
inserted_has test y [] x (inl q) = inl q
inserted_has test y [] x (inr h) = absurd h
inserted_has test y (z ∷ xs) x h = by (λ i. inserted_has test y xs x i) (test z) h
  where
    by : (Has x (insert_before test y xs) → (x ≡ y) ⊎ Has x xs) → (b : Bool) → Has x (if b then y ∷ z ∷ xs else z ∷ insert_before test y xs) → (x ≡ y) ⊎ Has x (z ∷ xs)
    by rest true (inl q) = inl q
    by rest true (inr i) = inr i
    by rest false (inl q) = inr (inl q)
    by rest false (inr i) = ⊎_elim (λ (a : x ≡ y). inl a) (λ (b : Has x xs). inr (inr b)) (rest i)

started_uncast : (c : Config) (n j : ℕ) (r : Happened) → Has r (started c n j).records → IsUncast r
unfolding started with_sessions ring_record
started_uncast c n j r (inl q) = subst IsUncast (sym q) tt
started_uncast c n j r (inr h) = by (has_append r (map (ring_record n) (own_rings c c.mode n j)) (happened.In n (first_view c c.mode n j) (first_members c c.mode n j) ∷ []) h)
  where
    by : Has r (map (ring_record n) (own_rings c c.mode n j)) ⊎ Has r (happened.In n (first_view c c.mode n j) (first_members c c.mode n j) ∷ []) → IsUncast r
    by (inl i) = let k = has_map (ring_record n) r (own_rings c c.mode n j) i in subst IsUncast (sym k.2) tt
    by (inr (inl q)) = subst IsUncast (sym q) tt
    by (inr (inr i)) = absurd i

bare_started : (w : World) (n j : ℕ) → Bare w → Bare (started_at w n j)
unfolding started_at traced started with_sessions level_set
bare_started w n j k =
    record {
      nodes = λ x i. node x (inserted_has (λ (y : Node). nat_lt n y.core.views.me) (record { core = started w.config n j; scripts = [] }) w.nodes x i);
      records = λ r i. ⊎_elim (λ (a : Has r (started w.config n j).records). started_uncast w.config n j r a) (λ (b : Has r w.trace). k.records r b) (onto_has r (started w.config n j).records w.trace i);
    }
  where
    own : ((started w.config n j).sessions.sessions ≡ []) × ((started w.config n j).sessions.providers ≡ [])
    own = (refl, refl)

    node : (x : Node) → (x ≡ record { core = started w.config n j; scripts = [] }) ⊎ Has x w.nodes → (x.core.sessions.sessions ≡ []) × (x.core.sessions.providers ≡ [])
    node x (inl q) = subst (λ (y : Node). (y.core.sessions.sessions ≡ []) × (y.core.sessions.providers ≡ [])) (sym q) own
    node x (inr i) = k.nodes x i

bare_starts : (w : World) (n last : ℕ) (o : Option Node) → Bare w → Bare (starts_if w n last o)
unfolding starts_if
bare_starts w n last (Some x) k = k
bare_starts w n last None k = by (last == last_u32)
  where
    by : (b : Bool) → Bare (elim b as (λ _. World) [ true ↦ w | false ↦ started_at w n (last + 1) ])
    by true = k
    by false = bare_started w n (last + 1) k

bare_all : (ns : List ℕ) (w : World) → Bare w → Bare (fold node_starts w ns)
unfolding node_starts
bare_all [] w k = k
bare_all (n ∷ ns) w k = bare_all ns (node_starts w n) (bare_starts w n (last_start w n) (node_at w n) k)

bare_new : (c : Config) → Bare (world_new c)
unfolding world_new world_of
bare_new c = by c.mode
  where
    none : Bare (empty_world c)
    none = record { nodes = λ x i. absurd i; records = λ r i. absurd i }

    by : (m : Mode) → Bare (world_of c m)
    by Fixed = bare_all (nodes_of c.nodes) (empty_world c) none
    by Asked = none
    by Rings = none

first_nodes : (P : List Logged → Type 0) (K : Happened → Type 0) (tr : List Happened) (xs : List Node) → ((x : Node) → Has x xs → (x.core.sessions.sessions ≡ []) × (x.core.sessions.providers ≡ [])) → AllNodes (HasLogs P K tr) xs (map (λ (x : Node). record { node = x.core.views.me; logs = [] }) xs)
first_nodes P K tr [] bare = tt
first_nodes P K tr (x ∷ xs) bare =
    (refl, (record { aligned = ap (λ (ys : List Session). length ys) (sym (bare x (inl refl)).0); all = λ p i log place at. absurd (cc); none = λ i log at p q. absurd (cc) }, tt), first_nodes P K tr xs (λ y i. bare y (inr i)))

-- ---- the run

module _ {C : Type 0} (R : C → List Handed → Type 0) (c : Config) (all : List Answered) (P : List Logged → Type 0) (K : Happened → Type 0) (keeps : IsKeptAlong R c all P K) (may : AllMayHappen c (events_in all)) where
  abbrev At : List Answered → Logs → Type 0
  At es logs = State P K (answered_after c es).nodes (answered_after c es).trace logs

  run_keeps : (es fs rest : List Answered) → all ≡ (es ++ fs) ++ rest → (old new : Logs) → RunHands R (answered_after c es) fs old new → At es old → At (es ++ fs) new
  run_keeps es [] rest whole old new h k = subst (λ xs. At xs new) (sym (append-nil es)) (subst (At es) (sym h) k)
  run_keeps es (e ∷ fs) rest whole old new h k =
      let next : List Answered = es ++ e ∷ [] in
      let split : all ≡ es ++ e ∷ (fs ++ rest) = whole ∙ append_assoc es (e ∷ fs) rest in
      let front : AllMayHappen c (events_in es) = front_may c es (e ∷ (fs ++ rest)) (subst (λ xs. AllMayHappen c (events_in xs)) split may) in
      let next_may : AllMayHappen c (events_in next) = front_may c next (fs ++ rest) (subst (λ xs. AllMayHappen c (events_in xs)) (split ∙ sym (append_assoc es (e ∷ []) (fs ++ rest))) may) in
      let last : answered_after c next ≡ goes_on (answered_after c es) e = answered_last c es e in
      let trace : (answered_after c next).trace ≡ reverse_onto h.0 (answered_after c es).trace = ap (λ (w : World). w.trace) last ∙ h.2 in
      let one = event_keeps c es front R all P K keeps (fs ++ rest) e split next_may h.0 trace old h.1 h.4 k e.event e.answers refl h.3 in
      let now : At next h.1 = subst (λ (z : List Node × List Happened). State P K z.0 z.1 h.1) (λ i. (ap (λ (w : World). w.nodes) (sym last) i, sym trace i)) one in
      let joined : next ++ fs ≡ es ++ e ∷ fs = append_assoc es (e ∷ []) fs in
      subst (λ xs. At xs new) joined (run_keeps next fs rest (whole ∙ ap (λ xs. xs ++ rest) (sym joined)) h.1 new (subst (λ w. RunHands R w fs h.1 new) (sym last) h.5) now)

  pub from_start : (es fs : List Answered) → all ≡ es ++ fs → (logs : Logs) → RunHands R (world_new c) es (empty_logs (world_new c)) logs → At es logs
  unfolding answered_after
  from_start es fs whole logs h =
      run_keeps [] es fs whole (empty_logs (world_new c)) logs h (first_nodes P K (world_new c).trace (world_new c).nodes (bare_new c).nodes, λ r i. keeps.uncast r ((bare_new c).records r i))

  -- what is kept at each handing holds along the run
  pub holds_along : HoldsAlong R c all P K
  holds_along es fs whole logs h =
      let k = from_start es fs whole logs h in
      (of_nodes P (HasLogs P K (answered_after c es).trace) (λ s ls a. a.1) (answered_after c es).nodes logs k.0, k.1)

-- ---- so a log has all that its providers heard

nothing_more : {C : Type 0} (R : C → List Handed → Type 0) (c : Config) (all : List Answered) → IsKeptAlong R c all (λ log. Unit {0}) (λ r. Unit {0})
nothing_more R c all = record { empty = tt; uncast = λ r a. tt; given = λ s ev none r i. tt; handed = λ es fs e before h log whole m a b. (tt, tt) }

pub logs_have_all : {C : Type 0} (R : C → List Handed → Type 0) (c : Config) (all : List Answered) → AllMayHappen c (events_in all) → LogsHaveAll R c all
unfolding node_at
logs_have_all R c all may es fs whole logs h n x up =
    let k = from_start R c all (λ log. Unit {0}) (λ r. Unit {0}) (nothing_more R c all) may es fs whole logs h in
    let own = (found (HasLogs (λ log. Unit {0}) (λ r. Unit {0}) (answered_after c es).trace) n x (answered_after c es).nodes logs k.0 up).0 in
    (own.0.aligned, λ p i log place at. own.0.all p i log place at)
