-- The logs of daemons have what a network records but the lives in which nodes do nothing; and so they are Seen.
use Rattle.std.proofs.Common.{◌≡◌, ◌<◌, ◌≤◌, ◌+◌, ℕ, zero, suc, Bool, List, [], ◌∷◌, ◌++◌, Option, Some, None, false, refl, sym, ap, ◌∙◌, subst, arith, append-nil, append_assoc}
use Rattle.std.specs.Prelude.{fold, map, reverse}
use Rattle.std.proofs.lemmas.List.{reverse-append}
use Rattle.rsct_packet.specs.Lists.{reverse_onto}
use Rattle.rsct_packet.specs.declared.ids.Member.{Member}
use Rattle.rsct_packet.specs.Search.{Has}
use Rattle.rsct_packet.proofs.HasLaws.{has_map, has_reverse}
use Rattle.node_state.specs.declared.config.Config.{Config}
use Rattle.node_state.specs.declared.config.Mode.{Mode}
use Rattle.node_state.specs.declared.config.Mode.TheVariants.{Fixed, Asked, Rings}
use Rattle.node_state.specs.declared.happened.Happened.{Happened}
use Rattle.node_state.specs.declared.happened.Happened.TheVariants as happened
use Rattle.node_state.specs.Settings.{is_fixed}
use Rattle.node_state.specs.Step.{own_rings, ring_record, first_view, first_members, started}
use Rattle.world_model.specs.World.{World, empty_world}
use Rattle.world_laws.proofs.world_runs.Backwards.{reversed_back}
use Rattle.world_laws.specs.world_answers.Answers.{Answered, answered_records}
use Rattle.run_safety.specs.Past.{records_of, inc_now}
use Rattle.step_refinement.specs.Tied.{Scene}
use Rattle.step_refinement.specs.Runs.{Reached}
use Rattle.step_refinement.proofs.Changed.{set_here}
use Rattle.row_laws.proofs.hearing.Incarnations.{incs_of}
use Rattle.run_laws.proofs.seen_runs.Starting.{start_records}
use Rattle.world_safety.specs.Events.{run_of_events}
use Rattle.world_safety.specs.Mirrors.{Mirrors}
use Rattle.world_safety.proofs.Runs.{every_run_is_reached}
use Rattle.world_safety.proofs.SteadyRuns.{history_records}
use Rattle.world_safety.proofs.Traces.{run_has_the_records}
use Rattle.log_laws.specs.Logs.{LivesAreLogged, Logs, Nothing, LeavesOut}
use Rattle.log_laws.proofs.Runs.{every_run_is_seen_in_logs}
use Rattle.log_laws.proofs.Writing.{IsRing, writes_all, goes_down, life_left_out, no_later}
use Rattle.daemon_model.specs.Daemon.{Daemon, begun_for, serves_nobody}
use Rattle.daemon_model.specs.Actions.{did}
use Rattle.daemon_model.specs.Sent.{Exchange}
use Rattle.network_model.specs.Network.{Act, Begins, Does, Ends, Net, no_net, skipped, noted_since, went_on, starts, ends, idles, begins, does_if, acted}
use Rattle.network_model.specs.Fits.{IsSpelledSend, AllMayAct, NetworkRun}
use Rattle.network_model.specs.Executions.{what_of, TimedLife, untimed, Ordered}
use Rattle.network_laws.proofs.Going.{begun_records}
use Rattle.network_laws.proofs.Orders.{are_lives}
use Rattle.network_safety.specs.Served.{WasTold}
use Rattle.network_safety.specs.Logs.{written_if, written, logged, LogsOfDaemonsAreSeen, HasSeenLogs, LogsOfExecutionsAreSeen, LogsOfServedAreSeen}
use Rattle.network_safety.proofs.Standing.{Stand}
use Rattle.network_safety.proofs.Law.{nothing_stands, AllGo, all_go, acts_as, told_spelled}
use Rattle.network_safety.proofs.OwnLogs.{nodes_log_their_lives}

-- ---- the scene of a network

-- a scene that events lead to has the network's records, and its incarnations
record Told (c : Config) (net : Net) : Type 0 where
  scene : Scene
  reached : Reached c scene
  records : records_of scene.before ≡ reverse net.records
  incs : (n : ℕ) → inc_now n (reverse net.records) ≡ net.incarnations n

told : (c : Config) (net : Net) (es : List Answered) (w : World) → Stand c net es w → Told c net
unfolding answered_records
told c net es w k =
    let run = every_run_is_reached c es k.world.may in
    let m : Mirrors c w run.0 = subst (λ v. Mirrors c v run.0) k.world.is run.4 in
    let trace : answered_records c es ≡ net.records = ap (λ (v : World). reverse_onto v.trace []) k.world.is ∙ ap (λ zs. reverse_onto zs []) k.world.trace ∙ reversed_back net.records [] in
    let records : records_of (run.0).before ≡ reverse net.records = ap records_of run.5 ∙ (history_records (run_of_events c es) ∙ ap reverse (run_has_the_records c es ∙ trace)) in
    record { scene = run.0; reached = run.1; records = records; incs = λ n. ap (inc_now n) (sym records) ∙ (incs_of c run.0 run.1 n ∙ (m.incs n ∙ sym (k.world.incs n))) }

-- ---- an act

alone : (m : Mode) → is_fixed m ≡ false → (c : Config) (n j : ℕ) → first_members c m n j ≡ record { node = n; inc = j } ∷ []
unfolding first_members
alone Fixed free c n j = absurd (cc)
alone Asked free c n j = refl
alone Rings free c n j = refl

module _ (c : Config) (free : is_fixed c.mode ≡ false) where
  -- the logs so far
  record Logged (net : Net) (ls : List Happened) : Type 0 where
    logs : Logs (reverse net.records) ls
    lives : LivesAreLogged (reverse net.records) ls

  logged_as : (net : Net) (rs ls : List Happened) → reverse net.records ≡ rs → Logs rs ls × LivesAreLogged rs ls → Logged net ls
  logged_as net rs ls is k =
      record { logs = subst (λ xs. Logs xs ls) (sym is) k.0; lives = subst (λ xs. LivesAreLogged xs ls) (sym is) k.1 }

  -- what is recorded is written
  writes : (net after : Net) (xs ls : List Happened) → after.records ≡ net.records ++ xs → Logged net ls → Logged after (reverse xs ++ ls)
  writes net after xs ls is k =
      logged_as after (reverse xs ++ reverse net.records) (reverse xs ++ ls) (ap reverse is ∙ reverse-append net.records xs) (writes_all (reverse xs) (reverse net.records) ls k.logs k.lives)

  -- the node is down, which is not
  downs : (n : ℕ) (net after : Net) (ls : List Happened) → after.records ≡ net.records ++ happened.Down n ∷ [] → Logged net ls → Logged after ls
  downs n net after ls is k =
      logged_as after (happened.Down n ∷ reverse net.records) ls (ap reverse is ∙ reverse-append net.records (happened.Down n ∷ [])) (LeavesOut (happened.Down n) (reverse net.records) ls k.logs tt, goes_down n (reverse net.records) ls k.lives)

  -- nor is a life in which it does nothing
  module _ (n j : ℕ) (net : Net) where
    abbrev rings : List Happened
    rings = reverse (map (ring_record n) (own_rings c c.mode n j))

    are_rings : (r : Happened) → Has r rings → IsRing r
    unfolding ring_record
    are_rings r h =
        let k = has_map (ring_record n) r (own_rings c c.mode n j) (has_reverse r (map (ring_record n) (own_rings c c.mode n j)) h) in subst IsRing (sym k.2) tt

    idle : (after : Net) (ls : List Happened) → after.records ≡ (net.records ++ (started c n j).records) ++ happened.Down n ∷ [] → inc_now n ls < j → Logged net ls → Logged after ls
    idle after ls is less k =
        logged_as after (happened.Down n ∷ happened.In n (first_view c c.mode n j) (record { node = n; inc = j } ∷ []) ∷ (rings ++ happened.Up n j ∷ reverse net.records)) ls onto (life_left_out n j (first_view c c.mode n j) rings (reverse net.records) ls are_rings less k.logs k.lives)
      where
        onto : reverse after.records ≡ happened.Down n ∷ happened.In n (first_view c c.mode n j) (record { node = n; inc = j } ∷ []) ∷ (rings ++ happened.Up n j ∷ reverse net.records)
        onto =
            ap reverse is
            ∙ (reverse-append (net.records ++ (started c n j).records) (happened.Down n ∷ []) ∙ (ap (λ xs. happened.Down n ∷ xs) (reverse-append net.records (started c n j).records) ∙ (ap (λ xs. happened.Down n ∷ xs) (start_records c n j (reverse net.records) []) ∙ ap (λ (ms : List Member). happened.Down n ∷ happened.In n (first_view c c.mode n j) ms ∷ (rings ++ happened.Up n j ∷ reverse net.records)) (alone c.mode free c n j))))

  idles_logged : (n k : ℕ) (net : Net) (ls : List Happened) → inc_now n ls ≤ net.incarnations n → Logged net ls → Logged (idles c n k net) ls
  unfolding idles starts ends
  idles_logged n zero net ls le l = l
  idles_logged n (suc k) net ls le l =
      let next : Net = ends n (starts serves_nobody c n (net.incarnations n + 1) 0 net) in
      let risen : next.incarnations n ≡ net.incarnations n + 1 = set_here net.incarnations n (net.incarnations n + 1) in
      let records : next.records ≡ (net.records ++ (started c n (net.incarnations n + 1)).records) ++ happened.Down n ∷ [] = ap (λ xs. (net.records ++ xs) ++ happened.Down n ∷ []) (begun_records serves_nobody c n (net.incarnations n + 1) 0) in
      idles_logged n k next ls (omega (arith, le, risen)) (idle n (net.incarnations n + 1) net next ls records (omega (arith, le)) l)

  does_logged : (f : Daemon → Daemon) (n : ℕ) (net : Net) (o : Option Daemon) (ls : List Happened) → Logged net ls → Logged (does_if f n o net) (reverse (written_if f o) ++ ls)
  unfolding went_on
  does_logged f n net None ls l = l
  does_logged f n net (Some d) ls l = writes net (went_on n d (f d) net) (noted_since d (f d)) ls refl l

  act_logged : (net : Net) → Told c net → (a : Act) (ls : List Happened) → Logged net ls → Logged (acted c net a) (reverse (written c net a) ++ ls)
  unfolding acted begins starts ends written
  act_logged net t (Begins n incarnation moment service) ls l =
      let idled : Net = idles c n (skipped net n incarnation) net in
      let least : inc_now n ls ≤ inc_now n (reverse net.records) = no_later n (reverse net.records) ls l.logs in
      let is : inc_now n (reverse net.records) ≡ net.incarnations n = t.incs n in
      writes idled (starts service c n incarnation moment idled) (begun_for service c n incarnation moment).records ls refl (idles_logged n (skipped net n incarnation) net ls (omega (arith, least, is)) l)
  act_logged net t (Does n x) ls l = does_logged (λ d. did d x) n net (net.daemons n) ls l
  act_logged net t (Ends n) ls l = downs n net (ends n net) ls refl l

  -- ---- all acts

  acts_logged : (acts : List Act) (net : Net) (es : List Answered) (w : World) → Stand c net es w → AllMayAct IsSpelledSend c net acts → (ls : List Happened) → Logged net ls → Logged (fold (acted c) net acts) (reverse (logged c net acts) ++ ls)
  unfolding logged
  acts_logged [] net es w k may ls l = l
  acts_logged (a ∷ acts) net es w k may ls l =
      let one : AllGo c net es (a ∷ []) = all_go c free (a ∷ []) net es w k (may.0, tt) in
      let rest = acts_logged acts (acted c net a) (es ++ one.events) one.world one.stand may.1 (reverse (written c net a) ++ ls) (act_logged net (told c net es w k) a ls l) in
      subst (Logged (fold (acted c) (acted c net a) acts)) (sym (ap (λ xs. xs ++ ls) (reverse-append (written c net a) (logged c (acted c net a) acts)) ∙ append_assoc (reverse (logged c (acted c net a) acts)) (reverse (written c net a)) ls)) rest

-- a run of which the logs of the daemons have the records
pub record DaemonLogs (c : Config) (acts : List Act) : Type 0 where
  pub scene : Scene
  pub reached : Reached c scene
  pub logs : Logs (records_of scene.before) (reverse (logged c no_net acts))

pub daemons_log : (c : Config) (acts : List Act) → NetworkRun IsSpelledSend c acts → DaemonLogs c acts
daemons_log c acts run =
    let k : Stand c no_net [] (empty_world c) = nothing_stands c run.mode in
    let g : AllGo c no_net [] acts = all_go c run.mode acts no_net [] (empty_world c) k run.may in
    let t : Told c (fold (acted c) no_net acts) = told c (fold (acted c) no_net acts) g.events g.world g.stand in
    let ls : List Happened = reverse (logged c no_net acts) in
    let l = acts_logged c run.mode acts no_net [] (empty_world c) k run.may [] (record { logs = Nothing; lives = λ n up. absurd (cc) }) in
    record { scene = t.scene; reached = t.reached; logs = subst (λ rs. Logs rs ls) (sym t.records) (subst (Logs (reverse (fold (acted c) no_net acts).records)) (append-nil ls) l.logs) }

pub logs_of_daemons_are_seen : LogsOfDaemonsAreSeen
logs_of_daemons_are_seen c acts run = let d : DaemonLogs c acts = daemons_log c acts run in every_run_is_seen_in_logs c d.scene d.reached run.mode (reverse (logged c no_net acts)) d.logs

-- ---- executions

-- where what is asked of sends gives that they are spelled
module _ {T : Type 0} (no_later : T → T → Bool) (P : Exchange → Type 0) (spelled : (x : Exchange) → P x → IsSpelledSend x) (c : Config) (lives : ℕ → List (TimedLife T)) (order : Ordered T no_later P c lives) where
  order_is_seen : HasSeenLogs T no_later P c lives order
  order_is_seen =
      let acts : List Act = map what_of order.acts in
      record {
        shows = logs_of_daemons_are_seen c acts (record { mode = order.run.mode; may = acts_as c P IsSpelledSend spelled acts no_net order.run.may });
        own = nodes_log_their_lives c acts (λ n. map untimed (lives n)) (are_lives lives order.acts order.own);
      }

pub logs_of_executions_are_seen : (T : Type 0) → LogsOfExecutionsAreSeen T
logs_of_executions_are_seen T no_later c lives order = order_is_seen no_later IsSpelledSend (λ x h. h) c lives order

pub logs_of_served_are_seen : (T : Type 0) → LogsOfServedAreSeen T
logs_of_served_are_seen T no_later c served lives order = order_is_seen no_later (WasTold c served) (told_spelled c served) c lives order
