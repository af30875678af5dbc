-- What is kept holds of every log of a run whose events may happen.
use Rattle.std.proofs.Common.{◌≡◌, ℕ, zero, suc, ◌==◌, Bool, true, false, List, [], ◌∷◌, ◌++◌, map, remove, Option, Some, None, Result, Ok, Err, refl, sym, subst, append-nil, append_assoc}
use Rattle.std.specs.Prelude.{nat_lt, if◌then◌else◌}
use Rattle.rsct_packet.specs.Ids.{last_u32}
use Rattle.rsct_packet.specs.Lists.{drop_where}
use Rattle.client_callbacks.specs.Handed.{Handed}
use Rattle.session_state.specs.declared.fault.GsFault.{GsFault}
use Rattle.session_state.specs.declared.state.SessionState.{SessionState}
use Rattle.session_state.specs.State.{client_token, client_place}
use Rattle.session_state.specs.Calls.{inited, removed_at}
use Rattle.node_state.specs.declared.call.CallLine.TheVariants as call
use Rattle.node_state.specs.declared.config.Config.{Config}
use Rattle.node_state.specs.declared.happened.Happened.{Happened}
use Rattle.node_state.specs.declared.packet.Packet.{Packet}
use Rattle.node_state.specs.declared.state.Core.{Core}
use Rattle.node_state.specs.Handed.{Logged, logged_in}
use Rattle.node_state.specs.HandOn.{Answering}
use Rattle.node_state.specs.State.{state_of}
use Rattle.node_state.specs.Step.{NodeEvent, Ticks, Asks, Given, Calls, at_work}
use Rattle.node_state.specs.Step as step
use Rattle.node_calls.specs.Calling.{clients_with}
use Rattle.entry_delivery.specs.Received.{Handing, logged, logged_by, given_at, given_to, after_handings}
use Rattle.world_model.specs.declared.event.Event.{Event}
use Rattle.world_model.specs.declared.event.Event.TheVariants as event
use Rattle.world_model.specs.World.{node_at, kth_between, world_new}
use Rattle.world_model.specs.World as world
use Rattle.world_laws.specs.world_runs.Runs.{Recorded}
use Rattle.world_laws.specs.world_answers.Answers.{Answered, goes_on, events_in, answered_after}
use Rattle.world_safety.specs.Events.{AllMayHappen}
use Rattle.world_safety.specs.HeardStates.{stepping}
use Rattle.world_safety.proofs.HeardStates.{answered_last}
use Rattle.world_safety.proofs.Moments.{front_may}
use Rattle.run_hands.specs.Hands.{ClientLogs, Logs, is_log, logs_of, logs_with, logs_called, given_by, StepHands, NodeHands, DeliveryHands, logs_begun, logs_started, last_start, EventHands, RunHands, empty_logs}
use Rattle.run_hands.specs.Logs.{OfEach, OfLogs, IsKept, HoldsOfLogs}

-- ---- what changes the logs, of a property of each that an empty one has

module _ (P : List Logged → Type 0) (empty : P []) where
  added_each : (logs : List (List Logged)) → OfEach P logs → OfEach P (logs ++ [] ∷ [])
  added_each [] k = (empty, tt)
  added_each (log ∷ logs) k = (k.0, added_each logs k.1)

  begun_each : (r : Result SessionState GsFault) (logs : List (List Logged)) → OfEach P logs → OfEach P (clients_with [] logs r)
  begun_each (Ok t) logs k = added_each logs k
  begun_each (Err f) logs k = k

  removed_each : (i : ℕ) (logs : List (List Logged)) → OfEach P logs → OfEach P (remove logs i)
  removed_each zero [] k = k
  removed_each (suc i) [] k = k
  removed_each zero (log ∷ logs) k = k.1
  removed_each (suc i) (log ∷ logs) k = (k.0, removed_each i logs k.1)

  ended_each : (place : Option ℕ) (logs : List (List Logged)) → OfEach P logs → OfEach P (removed_at place logs)
  ended_each None logs k = k
  ended_each (Some i) logs k = removed_each i logs k

  called_each : (s : Core) (ev : NodeEvent) (logs : List (List Logged)) → OfEach P logs → OfEach P (logs_called s ev logs)
  called_each s (Calls (call.Init node name votes)) logs k = begun_each (inited s.sessions name) logs k
  called_each s (Calls (call.Goodbye client)) logs k = ended_each (client_place s.sessions (client_token s.sessions client)) logs k
  called_each s (Calls _) logs k = k
  called_each s _ logs k = k

  found_each : (n : ℕ) (x : ClientLogs) (xs : Logs) (b : Bool) → is_log n x ≡ b → OfEach P x.logs → OfEach P (logs_of n xs) → OfEach P (logs_of n (x ∷ xs))
  found_each n x xs true e k rest = rw e k
  found_each n x xs false e k rest = rw e rest

  of_node : (n : ℕ) (xs : Logs) → OfLogs P xs → OfEach P (logs_of n xs)
  of_node n [] k = tt
  of_node n (x ∷ xs) k = found_each n x xs (is_log n x) refl k.0 (of_node n xs k.1)

  with_logs : (n : ℕ) (logs : List (List Logged)) (xs : Logs) → OfEach P logs → OfLogs P xs → OfLogs P (logs_with n logs xs)
  with_logs n logs [] new k = k
  with_logs n logs (x ∷ xs) new k = by (is_log n x) (with_logs n logs xs new k.1)
    where
      by : (b : Bool) → OfLogs P (logs_with n logs xs) → OfLogs P (elim b as (λ _. Logs) [ true ↦ record x { logs = logs } ∷ xs | false ↦ x ∷ logs_with n logs xs ])
      by true rest = (new, k.1)
      by false rest = (k.0, rest)

  dropped_logs : (n : ℕ) (xs : Logs) → OfLogs P xs → OfLogs P (drop_where (is_log n) xs)
  dropped_logs n [] k = k
  dropped_logs n (x ∷ xs) k = by (is_log n x) (dropped_logs n xs k.1)
    where
      by : (b : Bool) → OfLogs P (drop_where (is_log n) xs) → OfLogs P (elim b as (λ _. Logs) [ true ↦ xs | false ↦ x ∷ drop_where (is_log n) xs ])
      by true rest = k.1
      by false rest = (k.0, rest)

  begun_logs : (n : ℕ) (xs : Logs) → OfLogs P xs → OfLogs P (logs_begun n xs)
  begun_logs n [] k = (tt, tt)
  begun_logs n (x ∷ xs) k = by (nat_lt n x.node) (begun_logs n xs k.1)
    where
      by : (b : Bool) → OfLogs P (logs_begun n xs) → OfLogs P (if b then record { node = n; logs = [] } ∷ x ∷ xs else x ∷ logs_begun n xs)
      by true rest = (tt, (k.0, k.1))
      by false rest = (k.0, rest)

  started_logs : (o : Option world.Node) (n last : ℕ) (xs : Logs) → OfLogs P xs → OfLogs P (logs_started o n last xs)
  started_logs (Some x) n last xs k = k
  started_logs None n last xs k = by (last == last_u32)
    where
      by : (b : Bool) → OfLogs P (elim b as (λ _. Logs) [ true ↦ xs | false ↦ logs_begun n xs ])
      by true = k
      by false = begun_logs n xs k

  first_logs : (xs : List world.Node) → OfLogs P (map (λ (x : world.Node). record { node = x.core.views.me; logs = [] }) xs)
  first_logs [] = tt
  first_logs (x ∷ xs) = (tt, first_logs xs)

-- ---- one event

module _ (P : List Happened → List Logged → Type 0) (kept : IsKept P) (c : Config) (es : List Answered) (e : Answered) (may : AllMayHappen c (events_in (es ++ e ∷ []))) where
  abbrev old_trace : List Happened
  old_trace = (answered_after c es).trace

  abbrev new_trace : List Happened
  new_trace = (answered_after c (es ++ e ∷ [])).trace

  each_stays : (logs : List (List Logged)) → OfEach (P old_trace) logs → OfEach (P new_trace) logs
  each_stays [] k = tt
  each_stays (log ∷ logs) k = (kept.stays c es e log may k.0, each_stays logs k.1)

  logs_stay : (xs : Logs) → OfLogs (P old_trace) xs → OfLogs (P new_trace) xs
  logs_stay [] k = tt
  logs_stay (x ∷ xs) k = (each_stays x.logs k.0, logs_stay xs k.1)

  module _ (rs : List Happened) (recorded : Recorded (answered_after c es) (answered_after c (es ++ e ∷ [])) rs) where
    -- what one client is handed of a step
    module _ (n : ℕ) (x : world.Node) (is : stepping e.event ≡ Some n) (at : node_at (answered_after c es) n ≡ Some x) (given : List Logged) where
      given_each : (before : List Handing) (h : Handing) (after : List Handing) → logged_in rs (state_of x.core) ≡ given ++ logged_by (before ++ h ∷ after)
          → (i : ℕ) (logs : List (List Logged)) → OfEach (P new_trace) logs → OfEach (P new_trace) (given_at i (logged h) logs)
      given_each before h after whole zero [] k = k
      given_each before h after whole (suc i) [] k = k
      given_each before h after whole zero (log ∷ logs) k = (kept.handed c es e n x rs may is at recorded given before h after whole log k.0, k.1)
      given_each before h after whole (suc i) (log ∷ logs) k = (k.0, given_each before h after whole i logs k.1)

      handed_each : (before : List Handing) (h : Handing) (after : List Handing) → logged_in rs (state_of x.core) ≡ given ++ logged_by (before ++ h ∷ after)
          → (place : Option ℕ) (logs : List (List Logged)) → OfEach (P new_trace) logs → OfEach (P new_trace) (given_to place (logged h) logs)
      handed_each before h after whole None logs k = k
      handed_each before h after whole (Some i) logs k = given_each before h after whole i logs k

      handings_each : (before hs : List Handing) → logged_in rs (state_of x.core) ≡ given ++ logged_by (before ++ hs)
          → (logs : List (List Logged)) → OfEach (P new_trace) logs → OfEach (P new_trace) (after_handings hs logs)
      unfolding after_handings
      handings_each before [] whole logs k = k
      handings_each before (h ∷ hs) whole logs k =
          let more : (before ++ h ∷ []) ++ hs ≡ before ++ h ∷ hs = append_assoc before (h ∷ []) hs in
          handings_each (before ++ h ∷ []) hs (subst (λ zs. logged_in rs (state_of x.core) ≡ given ++ logged_by zs) (sym more) whole) (given_to h.place (logged h) logs) (handed_each before h hs whole h.place logs k)

    module _ (old new : Logs) (k : OfLogs (P new_trace) old) where
      node_keeps : (n : ℕ) (ev : NodeEvent) (o : Option world.Node) → stepping e.event ≡ Some n → node_at (answered_after c es) n ≡ o → NodeHands o n ev rs old new → OfLogs (P new_trace) new
      node_keeps n ev None is at h = subst (OfLogs (P new_trace)) (sym h.1) k
      node_keeps n ev (Some x) is at h =
          let s : StepHands x.core ev rs (logs_of n old) h.0 = h.1 in
          let called : OfEach (P new_trace) (logs_called x.core ev (logs_of n old)) = called_each (P new_trace) (kept.empty new_trace) x.core ev (logs_of n old) (of_node (P new_trace) (kept.empty new_trace) n old k) in
          let logs : OfEach (P new_trace) h.0 = subst (OfEach (P new_trace)) (sym s.logs) (handings_each n x is at (logged_in (given_by (at_work x.core) ev) (state_of x.core)) [] s.handings s.stated (logs_called x.core ev (logs_of n old)) called) in
          subst (OfLogs (P new_trace)) (sym h.2) (with_logs (P new_trace) (kept.empty new_trace) n h.0 old logs k)

      delivery_keeps : (b : ℕ) (o : Option world.Node) (p : Option Packet) → stepping e.event ≡ Some b → node_at (answered_after c es) b ≡ o → DeliveryHands o p b rs old new → OfLogs (P new_trace) new
      delivery_keeps b None p is at h = subst (OfLogs (P new_trace)) (sym h.1) k
      delivery_keeps b (Some x) None is at h = subst (OfLogs (P new_trace)) (sym h.1) k
      delivery_keeps b (Some x) (Some p) is at h = node_keeps b (Given p) (Some x) is at h

event_keeps : (P : List Happened → List Logged → Type 0) → IsKept P → (c : Config) (es : List Answered) (ev : Event) (answers : Answering) (rs : List Happened) (old new : Logs) → AllMayHappen c (events_in (es ++ record { event = ev; answers = answers } ∷ []))
    → Recorded (answered_after c es) (answered_after c (es ++ record { event = ev; answers = answers } ∷ [])) rs → EventHands (answered_after c es) ev rs old new → OfLogs (P (answered_after c es).trace) old
    → OfLogs (P (answered_after c (es ++ record { event = ev; answers = answers } ∷ [])).trace) new
event_keeps P kept c es (event.Start n) a rs old new may r h k =
    let e : Answered = record { event = event.Start n; answers = a } in
    let now : List Logged → Type 0 = P (answered_after c (es ++ e ∷ [])).trace in
    subst (OfLogs now) (sym h.1) (started_logs now (kept.empty (answered_after c (es ++ e ∷ [])).trace) (node_at (answered_after c es) n) n (last_start (answered_after c es) n) old (logs_stay P kept c es e may old k))
event_keeps P kept c es (event.Stop n) a rs old new may r h k =
    let e : Answered = record { event = event.Stop n; answers = a } in
    let now : List Logged → Type 0 = P (answered_after c (es ++ e ∷ [])).trace in
    subst (OfLogs now) (sym h.1) (dropped_logs now (kept.empty (answered_after c (es ++ e ∷ [])).trace) n old (logs_stay P kept c es e may old k))
event_keeps P kept c es (event.Show n what) a rs old new may r h k =
    let e : Answered = record { event = event.Show n what; answers = a } in
    subst (OfLogs (P (answered_after c (es ++ e ∷ [])).trace)) (sym h.1) (logs_stay P kept c es e may old k)
event_keeps P kept c es (event.Tick n) a rs old new may r h k =
    let e : Answered = record { event = event.Tick n; answers = a } in
    node_keeps P kept c es e may rs r old new (logs_stay P kept c es e may old k) n Ticks (node_at (answered_after c es) n) refl refl h
event_keeps P kept c es (event.Ask n mask) a rs old new may r h k =
    let e : Answered = record { event = event.Ask n mask; answers = a } in
    node_keeps P kept c es e may rs r old new (logs_stay P kept c es e may old k) n (Asks mask) (node_at (answered_after c es) n) refl refl h
event_keeps P kept c es (event.Call n x) a rs old new may r h k =
    let e : Answered = record { event = event.Call n x; answers = a } in
    node_keeps P kept c es e may rs r old new (logs_stay P kept c es e may old k) n (Calls x) (node_at (answered_after c es) n) refl refl h
event_keeps P kept c es (event.Garbage n bytes) a rs old new may r h k =
    let e : Answered = record { event = event.Garbage n bytes; answers = a } in
    node_keeps P kept c es e may rs r old new (logs_stay P kept c es e may old k) n step.Garbage (node_at (answered_after c es) n) refl refl h
event_keeps P kept c es (event.Deliver m n i) a rs old new may r h k =
    let e : Answered = record { event = event.Deliver m n i; answers = a } in
    delivery_keeps P kept c es e may rs r old new (logs_stay P kept c es e may old k) n (node_at (answered_after c es) n) (kth_between (answered_after c es) m n i) refl refl h

-- ---- one event after another

module _ {C : Type 0} (P : List Happened → List Logged → Type 0) (kept : IsKept P) (R : C → List Handed → Type 0) (c : Config) where
  run_keeps : (es fs : List Answered) (old new : Logs) → AllMayHappen c (events_in (es ++ fs)) → RunHands R (answered_after c es) fs old new → OfLogs (P (answered_after c es).trace) old → OfLogs (P (answered_after c (es ++ fs)).trace) new
  run_keeps es [] old new may h k =
      subst (λ xs. OfLogs (P (answered_after c xs).trace) new) (sym (append-nil es)) (subst (OfLogs (P (answered_after c es).trace)) (sym h) k)
  run_keeps es (e ∷ fs) old new may h k =
      let more : List Answered = es ++ e ∷ [] in
      let whole : more ++ fs ≡ es ++ e ∷ fs = append_assoc es (e ∷ []) fs in
      let all : AllMayHappen c (events_in (more ++ fs)) = subst (λ xs. AllMayHappen c (events_in xs)) (sym whole) may in
      let last : answered_after c more ≡ goes_on (answered_after c es) e = answered_last c es e in
      let recorded : Recorded (answered_after c es) (answered_after c more) h.0 = subst (λ w. Recorded (answered_after c es) w h.0) (sym last) h.2 in
      let one : OfLogs (P (answered_after c more).trace) h.1 = event_keeps P kept c es e.event e.answers h.0 old h.1 (front_may c more fs all) recorded h.3 k in
      subst (λ xs. OfLogs (P (answered_after c xs).trace) new) whole (run_keeps more fs h.1 new all (subst (λ w. RunHands R w fs h.1 new) (sym last) h.5) one)

  from_start : (es : List Answered) (logs : Logs) → AllMayHappen c (events_in es) → RunHands R (world_new c) es (empty_logs (world_new c)) logs → OfLogs (P (answered_after c es).trace) logs
  unfolding answered_after
  from_start es logs may h = run_keeps [] es (empty_logs (world_new c)) logs may h (first_logs (P (world_new c).trace) (kept.empty (world_new c).trace) (world_new c).nodes)

  -- what is kept holds of every log of a run whose events may happen
  pub holds_of_logs : (all : List Answered) → AllMayHappen c (events_in all) → HoldsOfLogs P R c all
  holds_of_logs all may es fs whole logs hands =
      from_start es logs (front_may c es fs (subst (λ xs. AllMayHappen c (events_in xs)) whole may)) hands
