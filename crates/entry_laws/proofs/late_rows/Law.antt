-- Each scene that events lead to, whose ticks are noted.
use Rattle.std.proofs.Common.{◌≡◌, ◌≢◌, ◌≤◌, ℕ, ◌+◌, List, [], ◌∷◌, ◌++◌, Option, Some, None, Bool, false, refl, sym, ap, ◌∙◌, subst, inl, inr, arith, append-nil}
use Rattle.std.specs.Prelude.{◌&&◌, ◌||◌, map, reverse, if◌then◌else◌}
use Rattle.std.specs.List.{list_any}
use Rattle.std.specs.Str.{bytes_eq}
use Rattle.std.proofs.lemmas.Bool.{eq-eqb}
use Rattle.rsct_packet.specs.declared.ids.Member.{Member}
use Rattle.rsct_packet.specs.Search.{Has}
use Rattle.view_state.specs.Views.{views_new}
use Rattle.node_state.specs.declared.config.Config.{Config}
use Rattle.node_state.specs.declared.group.GroupRow.{GroupRow}
use Rattle.node_state.specs.declared.happened.Happened.{Happened}
use Rattle.node_state.specs.declared.happened.Happened.TheVariants as happened
use Rattle.node_state.specs.declared.state.Core.{Core}
use Rattle.node_state.specs.Settings.{view_level}
use Rattle.node_state.specs.State.{InNameOrder, with_sessions}
use Rattle.node_state.specs.HandOn.{Answering}
use Rattle.node_state.specs.Applying.{level_set}
use Rattle.node_state.specs.Step.{NodeEvent, Ticks, Asks, Given, Calls, Garbage, at_work, started, stepped, first_members, own_rings, ring_record}
use Rattle.world_model.specs.declared.event.Event.{Event}
use Rattle.world_model.specs.Run.{Happening}
use Rattle.run_safety.specs.Past.{History, records_of}
use Rattle.run_safety.specs.Stays.{Stay, stays_after, stays}
use Rattle.run_safety.specs.SafeHeard.{enters}
use Rattle.step_refinement.specs.Tied.{Scene, Tied}
use Rattle.step_refinement.specs.Rules.{over, Arises}
use Rattle.step_refinement.specs.Runs.{Reached, Nothing, AllStart, Starts, Stops, Steps, Notes}
use Rattle.step_refinement.proofs.Begins.{begin_tied}
use Rattle.step_refinement.proofs.RunLaw.{reached_rests}
use Rattle.run_induction.proofs.Idle.{Idle, Elsewhere, other_node, stay_elsewhere, enters_elsewhere, within_idle, Came, started_turned, first_stay, came_is, came_stays}
use Rattle.run_induction.proofs.Ran as runs
use Rattle.run_induction.proofs.Ran.{Telling, Ran, ran_reached, config_of}
use Rattle.run_induction.proofs.Laws.{UpClaim, UpDone, UpLaw, ups_hold}
use Rattle.entry_laws.specs.late_rows.Late.{tick_of, opens, opens_phase, ticks_with, ticks_of, RecordLate, LateHadTime}
use Rattle.entry_laws.specs.late_rows.Announced.{members_after, members_now, RecordTold, LateWereAnnounced}
use Rattle.entry_laws.specs.late_rows.Runs.{NotedAs, TicksAreNoted, WhoIsLateHadTime, WhoIsLateWasAnnounced}
use Rattle.entry_laws.proofs.late_rows.At.{Turn, RowIs, Folds, Mine, found, leads_row, At}
use Rattle.entry_laws.proofs.late_rows.Ending.{Every, NoGroup}
use Rattle.entry_laws.proofs.late_rows.Steps.{Begins, TicksIn, at_stepped}

-- ---- records that move nothing of a node

record Aside (m : ℕ) (r : Happened) : Type 0 where
  stays : (g : List ℕ) (old : List Stay) → stays_after m g r old ≡ old
  enters_not : enters m r ≡ false
  opens_not : (g : List ℕ) → opens m g r ≡ false
  members : (old : List Member) → members_after m r old ≡ old

elsewhere_opens : (m : ℕ) (g : List ℕ) (r : Happened) → Elsewhere m r → opens m g r ≡ false
elsewhere_opens m g (happened.Put k v h i e) ne = ap (λ b. b && (bytes_eq h g && opens_phase e)) (other_node k m ne)
elsewhere_opens m g _ ne = refl

elsewhere_members : (m : ℕ) (r : Happened) (old : List Member) → Elsewhere m r → members_after m r old ≡ old
elsewhere_members m (happened.In k v ms) old ne = ap (λ b. if b then ms else old) (other_node k m ne)
elsewhere_members m _ old ne = refl

elsewhere_aside : (m : ℕ) (r : Happened) → Elsewhere m r → Aside m r
elsewhere_aside m r ne =
    record { stays = λ g old. stay_elsewhere m g r old ne; enters_not = enters_elsewhere m r ne; opens_not = λ g. elsewhere_opens m g r ne; members = λ old. elsewhere_members m r old ne }

-- a record of another node
mine_aside : (n m : ℕ) → n ≢ m → (r : Happened) → Mine n r → Aside m r
mine_aside n m ne (happened.Up k j) q = elsewhere_aside m (happened.Up k j) (λ e. ne (sym q ∙ e))
mine_aside n m ne (happened.Down k) q = elsewhere_aside m (happened.Down k) (λ e. ne (sym q ∙ e))
mine_aside n m ne (happened.In k v ms) q = elsewhere_aside m (happened.In k v ms) (λ e. ne (sym q ∙ e))
mine_aside n m ne (happened.Base k v h u len s) q =
    elsewhere_aside m (happened.Base k v h u len s) (λ e. ne (sym q ∙ e))
mine_aside n m ne (happened.Put k v h i e) q = elsewhere_aside m (happened.Put k v h i e) (λ x. ne (sym q ∙ x))
mine_aside n m ne _ q = record { stays = λ g old. refl; enters_not = refl; opens_not = λ g. refl; members = λ old. refl }

module _ (m : ℕ) where
  stays_aside : (g : List ℕ) (rs old : List Happened) → ((r : Happened) → Has r rs → Aside m r) → stays m g (rs ++ old) ≡ stays m g old
  stays_aside g [] old all = refl
  stays_aside g (r ∷ rs) old all = (all r (inl refl)).stays g (stays m g (rs ++ old)) ∙ stays_aside g rs old (λ y i. all y (inr i))

  members_aside : (rs old : List Happened) → ((r : Happened) → Has r rs → Aside m r) → members_now m (rs ++ old) ≡ members_now m old
  members_aside [] old all = refl
  members_aside (r ∷ rs) old all = (all r (inl refl)).members (members_now m (rs ++ old)) ∙ members_aside rs old (λ y i. all y (inr i))

  any_aside : (test : Happened → Bool) (rs old : List Happened) → ((r : Happened) → Has r rs → test r ≡ false) → list_any test (rs ++ old) ≡ list_any test old
  any_aside test [] old all = refl
  any_aside test (r ∷ rs) old all = ap (λ b. b || list_any test (rs ++ old)) (all r (inl refl)) ∙ any_aside test rs old (λ y i. all y (inr i))

  ticks_aside : (g : List ℕ) (event : Option Event) (rs old : List Happened) (older : ℕ) → ((r : Happened) → Has r rs → Aside m r) → ticks_with m g event (rs ++ old) older ≡ ticks_with m g event old older
  ticks_aside g event rs old older all =
      let a : list_any (enters m) (rs ++ old) ≡ list_any (enters m) old = any_aside (enters m) rs old (λ r i. (all r i).enters_not) in
      let b : list_any (opens m g) (rs ++ old) ≡ list_any (opens m g) old = any_aside (opens m g) rs old (λ r i. (all r i).opens_not g) in
      λ i. if a i then tick_of m event else if b i then 0 else tick_of m event + older

-- ---- between events

-- a node that is up, by the records
record CoreIs (c : Config) (m : ℕ) (h : History) (s : Core) : Type 0 where
  config : s.config ≡ c
  level : s.sessions.level ≡ view_level c (members_now m (records_of h))
  me : s.views.me ≡ m
  order : InNameOrder s.groups
  folds : (g : List ℕ) → Folds (record { config = c; node = m; event = None; before = h }) g s.views.view [] (found s g).list
  tallies : (g : List ℕ) → RowIs (ticks_of m g h) 0 (leads_row s (found s g)) (found s g)

-- nothing is said of what was sent
abbrev late : Config → UpClaim
late c = record { sent = λ h x. Unit {0}; node = λ m inc ps h s. CoreIs c m h s; lines = λ h. LateHadTime h × LateWereAnnounced c h }

tally_more : (ticks more : ℕ) (led : Bool) (row : GroupRow) → ticks ≤ more → RowIs ticks 0 led row → RowIs more 0 led row
tally_more ticks more led row le k t e =
    let z = k t e in
    (z.0, λ run r. let w = z.1 run r in let y = w.0 in (record { default = y.default; limit = y.limit; counted = (let a = y.counted in omega arith); voter = y.voter; vote = y.vote }, w.1))

-- the history grows, and not for this node
record Grows (m : ℕ) (h k : History) : Type 0 where
  stays_same : (g : List ℕ) → stays m g (records_of k) ≡ stays m g (records_of h)
  members_same : members_now m (records_of k) ≡ members_now m (records_of h)
  more : (g : List ℕ) → ticks_of m g h ≤ ticks_of m g k

core_on : (c : Config) (m : ℕ) (h k : History) (s : Core) → Grows m h k → CoreIs c m h s → CoreIs c m k s
core_on c m h k s a b =
    record {
      config = b.config;
      level = b.level ∙ ap (view_level c) (sym a.members_same);
      me = b.me;
      order = b.order;
      folds = λ g. let f = b.folds g in record { stay = f.stay; older = f.older; is = a.stays_same g ∙ f.is; at_view = f.at_view; state = f.state; len = f.len };
      tallies = λ g. tally_more (ticks_of m g h) (ticks_of m g k) (leads_row s (found s g)) (found s g) (a.more g) (b.tallies g);
    }

-- one more event, in which nothing moves of the node
next_aside : (c : Config) (m : ℕ) (h : History) (e : Happening) (s : Core) → ((r : Happened) → Has r e.records → Aside m r) → CoreIs c m h s → CoreIs c m (e ∷ h) s
next_aside c m h e s all b =
    core_on c m h (e ∷ h) s (record { stays_same = λ g. stays_aside m g e.records (records_of h) all; members_same = members_aside m e.records (records_of h) all; more = λ g. more g }) b
  where
    more : (g : List ℕ) → ticks_of m g h ≤ ticks_with m g e.event e.records (ticks_of m g h)
    more g =
        let q : ticks_with m g e.event (e.records ++ []) (ticks_of m g h) ≡ tick_of m e.event + ticks_of m g h = ticks_aside m g e.event e.records [] (ticks_of m g h) all in
        let p : ticks_with m g e.event e.records (ticks_of m g h) ≡ tick_of m e.event + ticks_of m g h = ap (λ l. ticks_with m g e.event l (ticks_of m g h)) (sym (append-nil e.records)) ∙ q in omega arith

-- records that put nothing
idle_late : (event : Option Event) (r : Happened) (now : List Happened) (before : History) → Idle r → RecordLate event now before r
idle_late event (happened.Put m v g i e) now before p = absurd p
idle_late event _ now before p = tt

idle_told : (c : Config) (r : Happened) (now : List Happened) (before : History) → Idle r → RecordTold c now before r
idle_told c (happened.Put m v g i e) now before p = absurd p
idle_told c _ now before p = tt

started_members : (c : Config) (n j : ℕ) (xs : List Happened) → members_now n (reverse (started c n j).records ++ xs) ≡ first_members c c.mode n j
started_members c n j xs =
    ap (members_now n) (started_turned c n j xs) ∙ ap (λ b. if b then first_members c c.mode n j else members_now n (reverse (map (ring_record n) (own_rings c c.mode n j)) ++ happened.Up n j ∷ xs)) (eq-eqb n n refl)

-- a node that starts is as its records say
started_core : (c : Config) (n j : ℕ) (e : Happening) (h : History) → Came c n j e.records → CoreIs c n (e ∷ h) (started c n j)
unfolding started with_sessions level_set views_new
started_core c n j e h came =
    record {
      config = refl;
      level = ap (view_level c) (sym (ap (members_now n) (came_is c n j e.records came (records_of h)) ∙ members_aside n came.later (reverse (started c n j).records ++ (came.first ++ records_of h)) (λ r i. elsewhere_aside n r (came.after r i)) ∙ started_members c n j (came.first ++ records_of h)));
      me = refl;
      order = tt;
      folds = λ g. record {
        stay = first_stay c n j;
        older = [];
        is = came_stays c n j e.records came g (records_of h);
        at_view = refl;
        state = refl;
        len = refl;
      };
      tallies = λ g t e. absurd (cc);
    }

-- ---- from one event to the next

-- a step
step_done : (w : Scene) (n : ℕ) (f : Answering) (s : Core) (e : NodeEvent) (v : Event) → ((h : List ℕ) → Tied h w n (at_work s)) → Arises w e → NotedAs n e v → LateHadTime w.before × LateWereAnnounced w.config w.before → CoreIs w.config n w.before s → UpDone (late w.config) w n v (stepped f s e)
step_done w n f s e v begins arises noted k was =
    record {
      sends = λ p i. tt;
      node = core;
      others = λ m ne d up b. next_aside w.config m w.before (over v t) d (λ r i. mine_aside n m (λ q. ne (sym q)) r (a.mine r i)) b;
      lines = ((a.puts, k.0), (a.told, k.1));
    }
  where
    t : Core
    t = stepped f s e

    x : Turn
    x = record { config = w.config; node = n; event = Some v; before = w.before }

    ticks : (e : NodeEvent) → NotedAs n e v → TicksIn n e (Some v)
    ticks Ticks q = ap (λ z. tick_of n (Some z)) q ∙ ap (λ b. if b then 1 else 0) (eq-eqb n n refl)
    ticks (Asks mask) q = tt
    ticks (Given p) q = tt
    ticks (Calls c) q = tt
    ticks Garbage q = tt

    refold : (g : List ℕ) → Folds x g s.views.view [] (found s g).list
    refold g = let f = was.folds g in record { stay = f.stay; older = f.older; is = f.is; at_view = f.at_view; state = f.state; len = f.len }

    row_less : (g : List ℕ) (less : ℕ) → less ≤ tick_of n (Some v) → RowIs (tick_of n (Some v) + ticks_of n g w.before) less (leads_row s (found s g)) (found s g)
    row_less g less le u q =
        let z = was.tallies g u q in
        (z.0, λ run r. let w = z.1 run r in let y = w.0 in (record { default = y.default; limit = y.limit; counted = (let b = y.counted in omega arith); voter = y.voter; vote = y.vote }, w.1))

    tallied : (e : NodeEvent) → TicksIn n e (Some v) → (g : List ℕ) (less : ℕ) → Begins e g less → RowIs (tick_of n (Some v) + ticks_of n g w.before) less (leads_row s (found s g)) (found s g)
    tallied Ticks one g less q = row_less g less (omega arith)
    tallied (Asks mask) one g less q = row_less g less (omega arith)
    tallied (Given p) one g less q = row_less g less (omega arith)
    tallied (Calls c) one g less q = row_less g less (omega arith)
    tallied Garbage one g less q = row_less g less (omega arith)

    begin : At x (Begins e) NoGroup ⊥ (at_work s)
    begin =
        record {
          me_is = was.me;
          config_is = was.config;
          level_is = was.level;
          puts = tt;
          told = tt;
          mine = λ r i. absurd i;
          order = was.order;
          folds = refold;
          tallies = λ g less q. tallied e (ticks e noted) g less q;
          led = λ g z. absurd z;
          entered = λ z. absurd z;
        }

    a : At x Every NoGroup ⊥ t
    a = at_stepped (Some v) w n f s e begins arises (ticks e noted) begin

    core : CoreIs w.config n (record { event = Some v; records = reverse t.records } ∷ w.before) t
    core =
        record {
          config = a.config_is;
          level = a.level_is;
          me = a.me_is;
          order = a.order;
          folds = λ g. let f = a.folds g in record { stay = f.stay; older = f.older; is = f.is; at_view = f.at_view; state = f.state; len = f.len };
          tallies = λ g. a.tallies g 0 refl;
        }

-- runs in which each tick is noted as such
abbrev ticking : Telling
ticking = record { steps = NotedAs; others = λ w v. Unit {0} }

noted_ran : (c : Config) (w : Scene) (k : Reached c w) → TicksAreNoted c w k → Ran ticking c w
noted_ran c _ Nothing noted = runs.Nothing
noted_ran c _ (AllStart fixed) noted = runs.AllStart fixed
noted_ran c _ (Starts w n e k free real down) noted = runs.Starts w n e (noted_ran c w k noted) free real down tt
noted_ran c _ (Stops w n e s k up) noted = runs.Stops w n e s (noted_ran c w k noted) up tt
noted_ran c _ (Steps w n f s e v k up arises) noted = runs.Steps w n f s e v (noted_ran c w k noted.1) up arises noted.0
noted_ran c _ (Notes w e rs k notes) noted = runs.Notes w e rs (noted_ran c w k noted) notes tt

timely : (c : Config) → UpLaw ticking c (late c)
timely c =
    record {
      none = (tt, tt);
      sent_on = λ e h x k. tt;
      stays = λ w e t o m s up all k. next_aside c m w.before e s (λ r i. elsewhere_aside m r (all r i)) k;
      comes = λ w e t o m came down. started_core c m (w.incs m + 1) e w.before came;
      lines_on = λ w e t o k. ((within_idle (RecordLate e.event) (idle_late e.event) e.records w.before o.idle, k.0), (within_idle (RecordTold c) (idle_told c) e.records w.before o.idle, k.1));
      steps = λ w n f s e v r next up arises noted h k. subst (λ d. LateHadTime w.before × LateWereAnnounced d w.before → CoreIs d n w.before s → UpDone (late d) w n v (stepped f s e)) (config_of ticking c w r) (step_done w n f s e v (λ g. begin_tied g w n s up (reached_rests c w (ran_reached ticking c w r) g)) arises noted) h.lines k;
    }

timely_holds : (c : Config) (w : Scene) (k : Reached c w) → TicksAreNoted c w k → LateHadTime w.before × LateWereAnnounced c w.before
timely_holds c w k noted = (ups_hold ticking c (late c) (timely c) w (noted_ran c w k noted)).lines

pub who_is_late_had_time : WhoIsLateHadTime
who_is_late_had_time c w k noted = (timely_holds c w k noted).0

pub who_is_late_was_announced : WhoIsLateWasAnnounced
who_is_late_was_announced c w k noted =
    subst (λ d. LateWereAnnounced d w.before) (sym (config_of ticking c w (noted_ran c w k noted))) (timely_holds c w k noted).1
