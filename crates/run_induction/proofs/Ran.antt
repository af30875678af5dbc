-- Runs, by how their events are noted; and the events in which no node takes a step: nodes start, one stops, or no node changes. Of
-- each number one of three things is true of such an event: its node stays as it is, comes or goes.
use Rattle.std.proofs.Common.{◌≡◌, ◌≢◌, ℕ, ◌+◌, List, [], ◌∷◌, ◌++◌, Option, Some, None, true, false, refl, sym, ap, subst, inl, inr, ⊎_elim, append-nil}
use Rattle.std.specs.Prelude.{fold, reverse}
use Rattle.std.proofs.lemmas.Bool.{cases_eq}
use Rattle.rsct_packet.specs.Search.{Has}
use Rattle.rsct_packet.specs.Mask.{nodes_of}
use Rattle.rsct_packet.proofs.HasLaws.{has_append, has_reverse}
use Rattle.node_state.specs.declared.config.Config.{Config}
use Rattle.node_state.specs.declared.happened.Happened.{Happened}
use Rattle.node_state.specs.declared.happened.Happened.TheVariants as happened
use Rattle.node_state.specs.declared.state.Core.{Core}
use Rattle.node_state.specs.Settings.{is_fixed}
use Rattle.node_state.specs.State.{with_sessions}
use Rattle.node_state.specs.HandOn.{Answering}
use Rattle.node_state.specs.Step.{NodeEvent, started, stepped}
use Rattle.world_model.specs.declared.event.Event.{Event}
use Rattle.world_model.specs.Run.{Happening}
use Rattle.step_refinement.specs.Tied.{Scene}
use Rattle.step_refinement.specs.Rules.{at_node, over, nothing_yet, all_started, starts_too, with_records, start_with, stopped, ended, Arises}
use Rattle.step_refinement.specs.Runs.{IsNote, noted, Reached}
use Rattle.step_refinement.specs.Runs as runs
use Rattle.step_refinement.proofs.Changed.{each_set, set_here, set_there}
use Rattle.run_induction.proofs.Idle.{Idle, AllIdle, Elsewhere, AllElsewhere, note_idle, note_elsewhere, started_idle, started_elsewhere, Came, came_more}

-- ---- runs

-- what is asked of how a node's step is noted, and of how an event is in which no node takes one
pub record Telling : Type 1 where
  pub steps : ℕ → NodeEvent → Event → Type 0
  pub others : Scene → Event → Type 0

-- nothing is
abbrev pub anyhow : Telling
anyhow = record { steps = λ n e v. Unit {0}; others = λ w v. Unit {0} }

-- as scenes that events lead to, where each event is noted so
pub data Ran (k : Telling) (c : Config) : Scene → Type 0 where
  Nothing : Ran k c (nothing_yet c)
  AllStart : is_fixed c.mode ≡ true → Ran k c (all_started c)
  Starts : (w : Scene) (n : ℕ) (e : Event) → Ran k c w → is_fixed w.config.mode ≡ false → n ≢ 0 → w.cores n ≡ None → k.others w e → Ran k c (start_with w n e (started w.config n (w.incs n + 1)))
  Stops : (w : Scene) (n : ℕ) (e : Event) (s : Core) → Ran k c w → w.cores n ≡ Some s → k.others w e → Ran k c (stopped w n e)
  Steps : (w : Scene) (n : ℕ) (f : Answering) (s : Core) (e : NodeEvent) (v : Event) → Ran k c w → w.cores n ≡ Some s → Arises w e → k.steps n e v → Ran k c (ended w n v (stepped f s e))
  Notes : (w : Scene) (e : Event) (rs : List Happened) → Ran k c w → ((r : Happened) → Has r rs → IsNote r) → k.others w e → Ran k c (noted w e rs)

pub ran_reached : (k : Telling) (c : Config) (w : Scene) → Ran k c w → Reached c w
ran_reached k c _ Nothing = runs.Nothing
ran_reached k c _ (AllStart fixed) = runs.AllStart fixed
ran_reached k c _ (Starts w n e r free real down told) = runs.Starts w n e (ran_reached k c w r) free real down
ran_reached k c _ (Stops w n e s r up told) = runs.Stops w n e s (ran_reached k c w r) up
ran_reached k c _ (Steps w n f s e v r up arises told) = runs.Steps w n f s e v (ran_reached k c w r) up arises
ran_reached k c _ (Notes w e rs r notes told) = runs.Notes w e rs (ran_reached k c w r) notes

pub reached_ran : (c : Config) (w : Scene) → Reached c w → Ran anyhow c w
reached_ran c _ runs.Nothing = Nothing
reached_ran c _ (runs.AllStart fixed) = AllStart fixed
reached_ran c _ (runs.Starts w n e r free real down) = Starts w n e (reached_ran c w r) free real down tt
reached_ran c _ (runs.Stops w n e s r up) = Stops w n e s (reached_ran c w r) up tt
reached_ran c _ (runs.Steps w n f s e v r up arises) = Steps w n f s e v (reached_ran c w r) up arises tt
reached_ran c _ (runs.Notes w e rs r notes) = Notes w e rs (reached_ran c w r) notes tt

-- ---- what becomes of a node

-- its incarnation, and itself if it is up, before and after an event with these records
pub data Moves (c : Config) (m : ℕ) (rs : List Happened) : ℕ → Option Core → ℕ → Option Core → Type 0 where
  Stays : (i : ℕ) (o : Option Core) → AllElsewhere m rs → Moves c m rs i o i o
  Comes : (i : ℕ) → Came c m (i + 1) rs → Moves c m rs i None (i + 1) (Some (started c m (i + 1)))
  Goes : (i : ℕ) (s : Core) → rs ≡ happened.Down m ∷ [] → Moves c m rs i (Some s) i None

both_elsewhere : (m : ℕ) (new rs : List Happened) → AllElsewhere m new → AllElsewhere m rs → AllElsewhere m (new ++ rs)
both_elsewhere m new rs a b r i =
    ⊎_elim (λ (h : Has r new). a r h) (λ (h : Has r rs). b r h) (has_append r new rs i)

-- as all start, no node is up before
pub data Opens (c : Config) (m : ℕ) (rs : List Happened) : ℕ → Option Core → Type 0 where
  Waits : AllElsewhere m rs → Opens c m rs 0 None
  Stands : Came c m 1 rs → Opens c m rs 1 (Some (started c m 1))

opens_more : (c : Config) (m : ℕ) (new rs : List Happened) → AllElsewhere m new → (i : ℕ) (o : Option Core) → Opens c m rs i o → Opens c m (new ++ rs) i o
opens_more c m new rs all _ _ (Waits a) = Waits (both_elsewhere m new rs all a)
opens_more c m new rs all _ _ (Stands k) = Stands (came_more c m 1 new rs all k)

opens_moves : (c : Config) (m : ℕ) (rs : List Happened) (i : ℕ) (o : Option Core) → Opens c m rs i o → Moves c m rs 0 None i o
opens_moves c m rs _ _ (Waits a) = Stays 0 None a
opens_moves c m rs _ _ (Stands k) = Comes 0 k

-- one number's incarnation and node are set
set_both : (P : ℕ → ℕ → Option Core → Type 0) (incs : ℕ → ℕ) (cores : ℕ → Option Core) (n j : ℕ) (o : Option Core) → P n j o → ((m : ℕ) → m ≢ n → P m (incs m) (cores m)) → (m : ℕ) → P m (at_node incs n j m) (at_node cores n o m)
set_both P incs cores n j o new old m =
    ⊎_elim (λ (e : m ≡ n). subst (λ k. P k (at_node incs n j k) (at_node cores n o k)) (sym e) (subst (λ (z : ℕ × Option Core). P n z.0 z.1) (λ i. (sym (set_here incs n j) i, sym (set_here cores n o) i)) new)) (λ (ne : m ≢ n). subst (λ (z : ℕ × Option Core). P m z.0 z.1) (λ i. (sym (set_there incs n j m ne) i, sym (set_there cores n o m ne) i)) (old m ne)) (cases_eq m n)

-- ---- all start, in one event

pub record Opened (c : Config) (w : Scene) : Type 0 where
  pub records : List Happened
  pub before : w.before ≡ record { event = None; records = records } ∷ []
  pub config : w.config ≡ c
  pub sent : w.sent ≡ []
  pub idle : AllIdle records
  pub nodes : (m : ℕ) → Opens c m records (w.incs m) (w.cores m)

waits_in : (c : Config) (m : ℕ) (rs : List Happened) (i : ℕ) (o : Option Core) → Opens c m rs i o → o ≡ None → (i ≡ 0) × AllElsewhere m rs
waits_in c m rs _ _ (Waits a) e = (refl, a)
waits_in c m rs _ _ (Stands k) e = absurd (cc)

too_opened : (c : Config) (w : Scene) (n : ℕ) (o : Option Core) → w.cores n ≡ o → Opened c w → Opened c (starts_too w n o)
too_opened c w n (Some s) up k = k
too_opened c w n None down k =
    record {
      records = new ++ k.records;
      before = ap (λ h. with_records h (started w.config n (w.incs n + 1)).records) k.before;
      config = k.config;
      sent = k.sent;
      idle = λ r i. ⊎_elim (λ (a : Has r new). started_idle w.config n (w.incs n + 1) r a) (λ (a : Has r k.records). k.idle r a) (has_append r new k.records i);
      nodes = set_both (λ m i o. Opens c m (new ++ k.records) i o) w.incs w.cores n (w.incs n + 1) (Some (started w.config n (w.incs n + 1))) here (λ m ne. opens_more c m new k.records (started_elsewhere w.config n (w.incs n + 1) m (λ e. ne (sym e))) (w.incs m) (w.cores m) (k.nodes m));
    }
  where
    new : List Happened
    new = reverse (started w.config n (w.incs n + 1)).records

    waits : (w.incs n ≡ 0) × AllElsewhere n k.records
    waits = waits_in c n k.records (w.incs n) (w.cores n) (k.nodes n) down

    here : Opens c n (new ++ k.records) (w.incs n + 1) (Some (started w.config n (w.incs n + 1)))
    here =
        subst (λ (z : Config × ℕ). Opens c n (reverse (started z.0 n (z.1 + 1)).records ++ k.records) (z.1 + 1) (Some (started z.0 n (z.1 + 1)))) (λ i. (sym k.config i, sym waits.0 i)) (Stands (record { later = []; first = k.records; is = refl; after = λ r i. absurd i; before = waits.1 }))

-- what holds before any has started, and goes on as one more starts in that event, holds as all have
module _ (c : Config) (P : Scene → Type 0) (next : (w : Scene) (n : ℕ) → Opened c w → Has n (nodes_of c.nodes) → w.cores n ≡ None → P w → P (starts_too w n None)) where
  too_holds : (w : Scene) (n : ℕ) (o : Option Core) → w.cores n ≡ o → Opened c w → Has n (nodes_of c.nodes) → P w → P (starts_too w n o)
  too_holds w n (Some s) up k there p = p
  too_holds w n None down k there p = next w n k there down p

  fold_holds : (ns : List ℕ) (w : Scene) → ((n : ℕ) → Has n ns → Has n (nodes_of c.nodes)) → Opened c w → P w → let t : Scene = fold (λ (w : Scene) n. starts_too w n (w.cores n)) w ns in Opened c t × P t
  fold_holds [] w there k p = (k, p)
  fold_holds (n ∷ ns) w there k p =
      fold_holds ns (starts_too w n (w.cores n)) (λ m h. there m (inr h)) (too_opened c w n (w.cores n) refl k) (too_holds w n (w.cores n) refl k (there n (inl refl)) p)

  pub all_start_holds : P (record (nothing_yet c) { before = record { event = None; records = [] } ∷ [] }) → Opened c (all_started c) × P (all_started c)
  all_start_holds p =
      fold_holds (nodes_of c.nodes) (record (nothing_yet c) { before = record { event = None; records = [] } ∷ [] }) (λ n h. h) (record { records = []; before = refl; config = refl; sent = refl; idle = λ r i. absurd i; nodes = λ m. Waits (λ r i. absurd i) }) p

pub all_opened : (c : Config) → Opened c (all_started c)
all_opened c = (all_start_holds c (λ w. Unit {0}) (λ w n k there down p. tt) tt).0

-- where none is up, none was
pub opened_inc : (c : Config) (w : Scene) (n : ℕ) → Opened c w → w.cores n ≡ None → w.incs n ≡ 0
opened_inc c w n k down = (waits_in c n k.records (w.incs n) (w.cores n) (k.nodes n) down).0

-- a run's settings stay
pub config_of : (k : Telling) (c : Config) (w : Scene) → Ran k c w → w.config ≡ c
config_of k c _ Nothing = refl
config_of k c _ (AllStart fixed) = (all_opened c).config
config_of k c _ (Starts w n e r free real down told) = config_of k c w r
config_of k c _ (Stops w n e s r up told) = config_of k c w r
config_of k c _ (Steps w n f s e v r up arises told) = config_of k c w r
config_of k c _ (Notes w e rs r notes told) = config_of k c w r

-- ---- an event in which no node takes a step

-- it leads from one scene of the run to another
pub record Outer (k : Telling) (c : Config) (w : Scene) (e : Happening) (t : Scene) : Type 0 where
  pub from : Ran k c w
  pub to : Ran k c t
  pub idle : AllIdle e.records
  pub moves : (m : ℕ) → Moves c m e.records (w.incs m) (w.cores m) (t.incs m) (t.cores m)
  pub told : (v : Event) → e.event ≡ Some v → k.others w v
  pub sent : t.sent ≡ w.sent
  pub before : t.before ≡ e ∷ w.before

-- a node that starts sends nothing
starts_silent : (c : Config) (n j : ℕ) → (started c n j).sends ≡ []
unfolding started with_sessions
starts_silent c n j = refl

-- what is asked of this event is asked of what is noted
told_of : (k : Telling) (w : Scene) (e : Event) → k.others w e → (v : Event) → Some e ≡ Some v → k.others w v
told_of k w e told v q = let z : e ≡ v = cc in subst (k.others w) z told

pub all_start_outer : (k : Telling) (c : Config) → is_fixed c.mode ≡ true → Outer k c (nothing_yet c) (record { event = None; records = (all_opened c).records }) (all_started c)
all_start_outer k c fixed =
    let o : Opened c (all_started c) = all_opened c in
    record {
      from = Nothing;
      to = AllStart fixed;
      idle = o.idle;
      moves = λ m. opens_moves c m o.records ((all_started c).incs m) ((all_started c).cores m) (o.nodes m);
      told = λ v q. absurd (cc);
      sent = o.sent;
      before = o.before;
    }

module _ (k : Telling) (c : Config) (w : Scene) where
  pub start_outer : (n : ℕ) (e : Event) → Ran k c w → is_fixed w.config.mode ≡ false → n ≢ 0 → w.cores n ≡ None → k.others w e → Outer k c w (over e (started w.config n (w.incs n + 1))) (start_with w n e (started w.config n (w.incs n + 1)))
  start_outer n e r free real down told =
      record {
        from = r;
        to = Starts w n e r free real down told;
        idle = started_idle w.config n (w.incs n + 1);
        moves = set_both (λ m i o. Moves c m (reverse s.records) (w.incs m) (w.cores m) i o) w.incs w.cores n (w.incs n + 1) (Some s) here (λ m ne. Stays (w.incs m) (w.cores m) (started_elsewhere w.config n (w.incs n + 1) m (λ q. ne (sym q))));
        told = told_of k w e told;
        sent = ap (λ l. l ++ w.sent) (starts_silent w.config n (w.incs n + 1));
        before = refl;
      }
    where
      s : Core
      s = started w.config n (w.incs n + 1)

      here : Moves c n (reverse s.records) (w.incs n) (w.cores n) (w.incs n + 1) (Some s)
      here =
          subst (λ o. Moves c n (reverse s.records) (w.incs n) o (w.incs n + 1) (Some s)) (sym down) (subst (λ d. Moves c n (reverse (started d n (w.incs n + 1)).records) (w.incs n) None (w.incs n + 1) (Some (started d n (w.incs n + 1)))) (sym (config_of k c w r)) (Comes (w.incs n) (record { later = []; first = []; is = sym (append-nil (reverse (started c n (w.incs n + 1)).records)); after = λ r i. absurd i; before = λ r i. absurd i })))

  pub stop_outer : (n : ℕ) (e : Event) (s : Core) → Ran k c w → w.cores n ≡ Some s → k.others w e → Outer k c w (record { event = Some e; records = happened.Down n ∷ [] }) (stopped w n e)
  stop_outer n e s r up told =
      record {
        from = r;
        to = Stops w n e s r up told;
        idle = one Idle tt;
        moves = each_set (λ m o. Moves c m (happened.Down n ∷ []) (w.incs m) (w.cores m) (w.incs m) o) w.cores n None (subst (λ o. Moves c n (happened.Down n ∷ []) (w.incs n) o (w.incs n) None) (sym up) (Goes (w.incs n) s refl)) (λ m ne. Stays (w.incs m) (w.cores m) (one (Elsewhere m) (λ q. ne (sym q))));
        told = told_of k w e told;
        sent = refl;
        before = refl;
      }
    where
      one : (P : Happened → Type 0) → P (happened.Down n) → (r : Happened) → Has r (happened.Down n ∷ []) → P r
      one P a r (inl q) = subst P (sym q) a
      one P a r (inr z) = absurd z

  pub note_outer : (e : Event) (rs : List Happened) → Ran k c w → ((r : Happened) → Has r rs → IsNote r) → k.others w e → Outer k c w (record { event = Some e; records = reverse rs }) (noted w e rs)
  note_outer e rs r notes told =
      record {
        from = r;
        to = Notes w e rs r notes told;
        idle = λ x i. note_idle x (notes x (has_reverse x rs i));
        moves = λ m. Stays (w.incs m) (w.cores m) (aside m);
        told = told_of k w e told;
        sent = refl;
        before = refl;
      }
    where
      aside : (m : ℕ) → AllElsewhere m (reverse rs)
      aside m x i = note_elsewhere m x (notes x (has_reverse x rs i))
