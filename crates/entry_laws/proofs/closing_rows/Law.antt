-- Each scene that events lead to.
use Rattle.std.proofs.Common.{◌≡◌, ◌≤◌, ◌⊎◌, ℕ, Bool, List, [], ◌∷◌, ◌++◌, length, Some, true, false, refl, sym, ap, ◌∙◌, subst, inl, inr, length-append, arith}
use Rattle.std.specs.Prelude.{◌+◌, reverse, if◌then◌else◌}
use Rattle.rsct_packet.specs.declared.ids.ViewId.{ViewId}
use Rattle.rsct_packet.specs.declared.ids.Member.{Member}
use Rattle.rsct_packet.specs.Search.{Has}
use Rattle.proposal_core.specs.declared.entry.Entry.{Entry}
use Rattle.proposal_core.specs.Fold.{empty_state}
use Rattle.proposal_core.specs.Lists.{list_or_new, state_in, len_in}
use Rattle.view_state.specs.Views.{views_new}
use Rattle.node_state.specs.declared.config.Config.{Config}
use Rattle.node_state.specs.declared.happened.Happened.{Happened}
use Rattle.node_state.specs.declared.happened.Happened.TheVariants as happened
use Rattle.node_state.specs.declared.group.GroupRow.{GroupRow}
use Rattle.node_state.specs.declared.packet.Packet.{Packet}
use Rattle.node_state.specs.declared.state.Core.{Core}
use Rattle.node_state.specs.State.{new_row, acked_from, row_of, led_of, list_of, state_of, len_of, frozen, with_sessions, leads, leads_in, leader_in}
use Rattle.node_state.specs.HandOn.{Answering}
use Rattle.node_state.specs.Applying.{level_set}
use Rattle.node_state.specs.Step.{NodeEvent, Given, at_work, is_used, started, stepped}
use Rattle.world_model.specs.declared.event.Event.{Event}
use Rattle.world_model.specs.Run.{Happening}
use Rattle.run_safety.specs.Past.{History, records_of, earlier, Within, is_list, puts_after, puts_of, base_of}
use Rattle.run_safety.specs.Sight.{lines_with, lines_of}
use Rattle.run_safety.specs.Group.{Origin, Based, Noted, kept}
use Rattle.run_safety.specs.GroupLists as lists
use Rattle.run_safety.specs.Bases.{Bases, state_of_list}
use Rattle.run_safety.proofs.Whole.{Whole}
use Rattle.run_safety.proofs.Lives.{whole}
use Rattle.step_refinement.specs.Ghost.{Ghost, Keeps}
use Rattle.step_refinement.specs.Tied.{Scene, opening_of, NodeIs, NodeIsIf, Rests}
use Rattle.step_refinement.specs.Rules.{ended, Arises}
use Rattle.step_refinement.specs.Runs.{Reached}
use Rattle.step_refinement.proofs.Begins.{begin_tied}
use Rattle.step_refinement.proofs.RowWorks.{keeps_of}
use Rattle.step_refinement.proofs.RunLaw.{reached_rests}
use Rattle.entry_laws.specs.closing_rows.Rows.{RowsAreAlwaysVoters, TallyFits, TalliesAreOfVoters, start_in, start_of, Tells, Acknowledges, GoesOn, EntersView, StepsForget, acked_of, StepsKeepAcks, LeadersForget}
use Rattle.entry_laws.proofs.closing_rows.Told.{Told, told_of, within_told, within_all}
use Rattle.entry_laws.proofs.closing_rows.Lists.{puts_all, fresh_before, state_rest}
use Rattle.run_induction.proofs.Invariants.{Among, Sends, Holds, Done, Invariant, reached_holds, node_holds}
use Rattle.run_induction.proofs.Quiet.{PutsNone}
use Rattle.entry_laws.proofs.closing_rows.Entered.{since_within}
use Rattle.entry_laws.proofs.closing_rows.Evident.{Evident, ToldNow, told_less, rows_right, again_evident}
use Rattle.entry_laws.proofs.closing_rows.At.{found, leads_row, Seat, seat, leads_by, least_at, least_is, Floors, RowStarts, nothing_said, fresh_row, RowIs, FreshIn, Fresh, RecordFact, Facts, StateIs, At}
use Rattle.entry_laws.proofs.closing_rows.Ending.{Every, NoGroup}
use Rattle.entry_laws.proofs.closing_rows.Steps.{floors_of, frame_of, Reaches, entry_told, ack_known, at_stepped}

-- ---- what a step has recorded

-- in a scene in which each group's life goes on
module _ (w : Scene) (rests : (g : List ℕ) → Rests g w) where
  abbrev pub bases_in : List ℕ → Bases
  bases_in g = (rests g).ghost.bases

  abbrev pub logs_in : List ℕ → ViewId → List Entry
  logs_in g = (whole (rests g).life).log

  pub told_in : (g : List ℕ) → Told (bases_in g) (logs_in g) (lines_of g w.before)
  told_in g =
      let t = rests g in subst (Told (bases_in g) (logs_in g)) t.lines (told_of (opening_of w.config) t.ghost t.life)

  -- the records say what state the list of a node has
  states_rest : (n : ℕ) (s : Core) → w.cores n ≡ Some s → (g : List ℕ) → StateIs s.views.me s.views.view g (found s g).list (records_of w.before)
  unfolding row_of
  states_rest n s up g = subst (λ m. StateIs m s.views.view g (found s g).list (records_of w.before)) (sym k.stands.me) here
    where
      t : Rests g w
      t = rests g

      x : Ghost
      x = t.ghost

      o : Whole (opening_of w.config) x.nodes x.ps x.all x.leads x.bases
      o = whole t.life

      k : NodeIs x g n s
      k = (subst (NodeIsIf w.config x g n (w.incs n)) up (t.nodes n)).0

      shows : Keeps x s.views.view (x.nodes n).list (list_or_new (found s g).list)
      shows = keeps_of x s.views.view (x.nodes n).list (found s g).list k.row_is.list

      full : lists.puts_of n s.views.view (kept (lines_of g w.before)) ≡ (x.nodes n).list
      full =
          ap (λ l. lists.puts_of n s.views.view (kept l)) (sym t.lines) ∙ ap (λ v. lists.puts_of n v (kept x.all)) (sym k.stands.view) ∙ (o.good.past.seated n).list

      based : (b : Origin) → x.bases s.views.view ≡ Some b → Has (Noted (Based n s.views.view b)) (lines_of g w.before)
      based b q = subst (Has (Noted (Based n s.views.view b))) t.lines (o.based_ok.by_all n s.views.inc s.views.view s.views.members b k.stands.seated q)

      puts : puts_of n s.views.view g (records_of w.before) ≡ (x.nodes n).list
      puts = puts_all n s.views.view g w.before ∙ full

      here : StateIs n s.views.view g (found s g).list (records_of w.before)
      here =
          record {
            state = shows.state ∙ ap (state_of_list x.bases s.views.view) (sym full) ∙ state_rest n s.views.view g (bases_in g) (logs_in g) w.before (told_in g) based;
            len = shows.len ∙ sym (ap length puts);
          }

-- a view that is entered is a new one
abbrev FreshOf : List ℕ → List Happened → History → Happened → Type 0
FreshOf g now before (happened.In n v ms) = (puts_of n v g (earlier now before) ≡ []) × (base_of n v g (earlier now before) ≡ empty_state)
FreshOf g now before _ = Unit {0}

fresh_one : (bases : Bases) (log : ViewId → List Entry) (g : List ℕ) (now : List Happened) (before : History) (r : Happened) → Told bases log (lines_with g (r ∷ now) before (lines_of g before)) → FreshOf g now before r
fresh_one bases log g now before (happened.In n v ms) t = fresh_before n v g bases log _ ms now before t
fresh_one bases log g now before _ t = tt

fresh_each : (now : List Happened) (before : History) (r : Happened) → ((g : List ℕ) → FreshOf g now before r) → FreshIn now before r
fresh_each now before (happened.In n v ms) k = k
fresh_each now before _ k = tt

all_fresh : (rs : List Happened) (before : History) → Within (λ now b r. (g : List ℕ) → FreshOf g now b r) rs before → Fresh rs before
all_fresh [] before k = tt
all_fresh (r ∷ now) before k = (fresh_each now before r k.0, all_fresh now before k.1)

module _ (bases : List ℕ → Bases) (log : List ℕ → ViewId → List Entry) (h : History) where
  fresh_now : (rs : List Happened) → ToldNow bases log rs h → Fresh rs h
  fresh_now rs t =
      all_fresh rs h (within_all FreshOf rs h (λ g. within_told (bases g) (log g) g (FreshOf g) (λ now b r k. fresh_one (bases g) (log g) g now b r k) rs h (t g)))

  fact_evident : (r : Happened) (now : List Happened) → Fresh now h → RecordFact now h r → Evident now h r
  fact_evident (happened.Put n v g i e) now fresh (inl a) = inl (a fresh)
  fact_evident (happened.Put n v g i e) now fresh (inr a) = inr a
  fact_evident _ now fresh k = tt

  facts_evident : (now : List Happened) → ToldNow bases log now h → Facts h now → Within Evident now h
  facts_evident now t k =
      since_within RecordFact Evident h (λ rs. ToldNow bases log rs h) (λ r rs c. told_less bases log r rs h c) (λ r rs c. fact_evident r rs (fresh_now rs (told_less bases log r rs h c))) (λ n v ms rs c. (tt, again_evident bases log rs h (told_less bases log (happened.In n v ms) rs h c) (λ g. (c g).in_order.0))) now t k

-- ---- the invariant

-- the floors of a row are where it stands
own_floors : (a : Seat) (g : List ℕ) (row : GroupRow) (x : Floors) → RowStarts x a g row → x.settled g ≡ true → (y : Floors) → y.starts g ≡ start_in row.list → y.led g ≡ leads_by a row → ((m : ℕ) → y.acks g m ≡ acked_from m row.led.acked) → RowStarts y a g row
own_floors a g row x k settled y start led acks =
    record { told = λ e. sym start; goes = λ e. sym led ∙ e; acked = λ m. sym (acks m); within = k.within; below = k.below; least = λ e. k.least settled; empty = λ e. k.empty settled }

-- what holds of a node, whatever was sent and recorded
abbrev CoreIs : List Packet → List Happened → Core → Type 0
CoreIs ps rs s = (g : List ℕ) → RowIs (leads_row s (found s g)) (found s g) × RowStarts (floors_of s) (seat s) g (found s g)

core_on : (ps qs : List Packet) → Sends ps qs → (rs ts : List Happened) → Among rs ts → (s : Core) → CoreIs ps rs s → CoreIs qs ts s
core_on ps qs more rs ts old s k = k

-- nothing is said of packets
abbrev Sent : List Happened → Packet → Type 0
Sent rs p = Unit {0}

none_evident : (r : Happened) (now : List Happened) (before : History) → PutsNone r → Evident now before r
none_evident (happened.Put n v g i e) now before z = absurd z
none_evident _ now before z = tt

-- a node that starts
started_is : (ps : List Packet) (rs : List Happened) (c : Config) (n j : ℕ) → CoreIs ps rs (started c n j)
unfolding started with_sessions level_set views_new
started_is ps rs c n j = λ g. (inl refl, own_floors (seat (started c n j)) g (new_row g) nothing_said (fresh_row (seat (started c n j)) g (new_row g) refl refl refl) refl (floors_of (started c n j)) refl refl (λ m. refl))

-- a step begins in what its node is
step_begins : (w : Scene) (n : ℕ) (s : Core) → w.cores n ≡ Some s → ((g : List ℕ) → Rests g w) → CoreIs w.sent (records_of w.before) s → At (frame_of w (at_work s)) Every NoGroup (at_work s)
step_begins w n s up rests c =
    record {
      came = refl;
      rows =
          record { order = (subst (NodeIsIf w.config (rests []).ghost [] n (w.incs n)) up ((rests []).nodes n)).0.order; starts = λ g. (c g).1; tallies = λ g t. (c g).0; led = λ g z. absurd z };
      facts = tt;
      states = λ fresh. states_rest w rests n s up;
    }

step_reaches : (w : Scene) (n : ℕ) (f : Answering) (s : Core) (e : NodeEvent) → w.cores n ≡ Some s → ((g : List ℕ) → Rests g w) → Arises w e → CoreIs w.sent (records_of w.before) s → Reaches (frame_of w (at_work s)) (at_work s) e (stepped f s e)
step_reaches w n f s e up rests arises c = at_stepped w n f s e (λ h. begin_tied h w n s up (rests h)) arises (step_begins w n s up rests c)

-- a step
step_done : (w : Scene) (n : ℕ) (f : Answering) (s : Core) (e : NodeEvent) (v : Event) → w.cores n ≡ Some s → ((g : List ℕ) → Rests g w) → ((g : List ℕ) → Rests g (ended w n v (stepped f s e))) → Arises w e → Holds Sent CoreIs Evident w → CoreIs w.sent (records_of w.before) s → Done Sent CoreIs Evident w (stepped f s e)
step_done w n f s e v up rests after arises k c = by (step_reaches w n f s e up rests arises c)
  where
    now : Scene
    now = ended w n v (stepped f s e)

    done : CoreIs w.sent (records_of w.before) (stepped f s e) → Facts w.before (reverse (stepped f s e).records) → Done Sent CoreIs Evident w (stepped f s e)
    done rows facts =
        record {
          sends = λ p i. tt;
          node = rows;
          lines = facts_evident (bases_in now after) (logs_in now after) w.before (reverse (stepped f s e).records) (λ g. told_in now after g) facts;
        }

    own : (x : Floors) → (g : List ℕ) → x.settled g ≡ true → RowStarts x (seat (stepped f s e)) g (found (stepped f s e) g) → RowStarts (floors_of (stepped f s e)) (seat (stepped f s e)) g (found (stepped f s e) g)
    own x g settled k = own_floors (seat (stepped f s e)) g (found (stepped f s e) g) x k settled (floors_of (stepped f s e)) refl refl (λ m. refl)

    by : Reaches (frame_of w (at_work s)) (at_work s) e (stepped f s e) → Done Sent CoreIs Evident w (stepped f s e)
    by (inl a) = done (λ g. (a.rows.tallies g tt, own nothing_said g refl (a.rows.starts g))) a.facts
    by (inr (y, go, b)) = done (λ g. (b.rows.tallies g tt, own y g (go.settled g) (b.rows.starts g))) b.facts

fitting : Invariant Sent CoreIs Evident
fitting =
    record {
      sent_on = λ rs ts more p k. tt;
      node_on = core_on;
      starts = started_is;
      quiet = none_evident;
      steps = step_done;
    }

pub rows_are_voters : RowsAreAlwaysVoters
rows_are_voters c w k =
    let rests : (g : List ℕ) → Rests g w = λ g. reached_rests c w k g in
    rows_right (bases_in w rests) (logs_in w rests) w.before (λ g. told_in w rests g) (reached_holds Sent CoreIs Evident fitting c w k).lines

pub tallies_are_of_voters : TalliesAreOfVoters
unfolding led_of state_of list_of row_of
tallies_are_of_voters c w k n s up g = by (node_holds Sent CoreIs Evident fitting c w k n s up g).0
  where
    by : RowIs (leads_row s (found s g)) (found s g) → TallyFits (found s g).led.tally (state_in (found s g).list)
    by (inl none) = subst (λ o. TallyFits o (state_in (found s g).list)) (sym none) tt
    by (inr j) = j.1

-- ---- where lists start

-- what a step begins with are the node's lists
begins_told : (s : Core) (e : NodeEvent) (g : List ℕ) (k : ℕ) → Tells (at_work s) e g k → Tells s e g k
unfolding is_used frozen len_of list_of row_of
begins_told s e g k t = record { packet = t.packet; given = t.given; to = t.to; place = t.place; entry = t.entry; says = t.says; used = t.used; room = t.room }

ends_told : (s : Core) (e : NodeEvent) (g : List ℕ) (k : ℕ) → Tells s e g k → Tells (at_work s) e g k
unfolding is_used frozen len_of list_of row_of
ends_told s e g k t = record { packet = t.packet; given = t.given; to = t.to; place = t.place; entry = t.entry; says = t.says; used = t.used; room = t.room }

pub steps_forget : StepsForget
unfolding leads leads_in leader_in row_of
steps_forget c w k n f s e up arises g away = by (step_reaches w n f s e up (λ g. reached_rests c w k g) arises (node_holds Sent CoreIs Evident fitting c w k n s up))
  where
    t : Core
    t = stepped f s e

    by : Reaches (frame_of w (at_work s)) (at_work s) e t → ((leads_row s (found s g) ≡ false) × GoesOn (λ c. start_of c g) (λ c e k. Tells c e g k) s e t) ⊎ (EntersView t × (start_of t g ≡ 0))
    by (inl a) = inr (record { members = a.came.0; enters = a.came.1 }, (a.rows.starts g).told away)
    by (inr (y, go, a)) =
        let begun = a.rows.starts g in
        let is : start_in (found t g).list ≡ y.starts g = begun.told away in
        inl (
          was (leads_row s (found s g)) refl (λ q. begun.goes (go.led g ∙ q)),
          record {
            view = a.came;
            old = subst (λ i. start_in (found s g).list ≤ i) (sym is) (go.old g);
            told = λ j z. subst (λ i. j ≤ i) (sym is) (go.told g j (ends_told s e g j z));
            one = one is (go.one g);
          },
        )
      where
        was : (b : Bool) → leads_row s (found s g) ≡ b → (b ≡ true → leads_row t (found t g) ≡ true) → leads_row s (found s g) ≡ false
        was false q on = q
        was true q on = absurd (let z : true ≡ false = sym (on refl) ∙ away in cc)

        one : start_in (found t g).list ≡ y.starts g → (y.starts g ≡ start_in (found s g).list) ⊎ Tells (at_work s) e g (y.starts g) → (start_in (found t g).list ≡ start_in (found s g).list) ⊎ Tells s e g (start_in (found t g).list)
        one is (inl q) = inl (is ∙ q)
        one is (inr z) = inr (subst (Tells s e g) (sym is) (begins_told s e g (y.starts g) z))

-- ---- what members acknowledged

begins_acked : (s : Core) (e : NodeEvent) (g : List ℕ) (m k : ℕ) → Acknowledges (at_work s) e g m k → Acknowledges s e g m k
unfolding is_used frozen leads leads_in leader_in row_of
begins_acked s e g m k t = record { packet = t.packet; given = t.given; to = t.to; from = t.from; says = t.says; used = t.used; led = t.led }

ends_acked : (s : Core) (e : NodeEvent) (g : List ℕ) (m k : ℕ) → Acknowledges s e g m k → Acknowledges (at_work s) e g m k
unfolding is_used frozen leads leads_in leader_in row_of
ends_acked s e g m k t = record { packet = t.packet; given = t.given; to = t.to; from = t.from; says = t.says; used = t.used; led = t.led }

pub steps_keep_acks : StepsKeepAcks
unfolding led_of row_of
steps_keep_acks c w k n f s e up arises g m = by (step_reaches w n f s e up (λ g. reached_rests c w k g) arises (node_holds Sent CoreIs Evident fitting c w k n s up))
  where
    t : Core
    t = stepped f s e

    by : Reaches (frame_of w (at_work s)) (at_work s) e t → GoesOn (λ c. acked_of c g m) (λ c e k. Acknowledges c e g m k) s e t ⊎ (EntersView t × (acked_of t g m ≡ 0))
    by (inl a) = inr (record { members = a.came.0; enters = a.came.1 }, (a.rows.starts g).acked m)
    by (inr (y, go, a)) =
        let is : acked_from m (found t g).led.acked ≡ y.acks g m = (a.rows.starts g).acked m in
        inl (record {
          view = a.came;
          old = subst (λ i. acked_from m (found s g).led.acked ≤ i) (sym is) (go.more g m);
          told = λ j z. subst (λ i. j ≤ i) (sym is) (go.acked g m j (ends_acked s e g m j z));
          one = one is (go.ack g m);
        })
      where
        one : acked_from m (found t g).led.acked ≡ y.acks g m → (y.acks g m ≡ acked_from m (found s g).led.acked) ⊎ Acknowledges (at_work s) e g m (y.acks g m) → (acked_from m (found t g).led.acked ≡ acked_from m (found s g).led.acked) ⊎ Acknowledges s e g m (acked_from m (found t g).led.acked)
        one is (inl q) = inl (is ∙ q)
        one is (inr z) = inr (subst (Acknowledges s e g m) (sym is) (begins_acked s e g m (y.acks g m) z))

pub leaders_forget : LeadersForget
unfolding leads leads_in leader_in row_of
leaders_forget c w k n s up g led =
    let is = (node_holds Sent CoreIs Evident fitting c w k n s up g).1 in
    let below : start_in (found s g).list ≤ least_at (seat s) (found s g) = is.below led in
    let least : least_at (seat s) (found s g) ≤ start_in (found s g).list = is.least refl led in
    let same : start_in (found s g).list ≡ least_at (seat s) (found s g) = omega arith in same ∙ sym (least_is s g)

-- ---- what a node puts

-- more records have no fewer entries
pub puts_grow : (n : ℕ) (v : ViewId) (g : List ℕ) (now rs : List Happened) → length (puts_of n v g rs) ≤ length (puts_of n v g (now ++ rs))
puts_grow n v g [] rs = omega arith
puts_grow n v g (r ∷ now) rs =
    let rest = puts_grow n v g now rs in
    let one = one_more r (puts_of n v g (now ++ rs)) in omega arith
  where
    one_more : (r : Happened) (xs : List Entry) → length xs ≤ length (puts_after n v g r xs)
    one_more (happened.Put m u h i e) xs = by (is_list n v g m u h)
      where
        by : (b : Bool) → length xs ≤ length (if b then xs ++ e ∷ [] else xs)
        by true = let z : length (xs ++ e ∷ []) ≡ length xs + 1 = length-append xs (e ∷ []) in omega arith
        by false = omega arith
    one_more _ xs = omega arith

entered_in : (n : ℕ) (v : ViewId) (ms : List Member) (g : List ℕ) (rs : List Happened) (before : History) → Fresh rs before → Has (happened.In n v ms) rs → length (puts_of n v g (records_of before)) ≤ 0
entered_in n v ms g [] before k i = absurd i
entered_in n v ms g (r ∷ now) before k (inl e) =
    let none : puts_of n v g (earlier now before) ≡ [] = (subst (FreshIn now before) (sym e) k.0 g).0 in
    let zero : length (puts_of n v g (now ++ records_of before)) ≡ 0 = ap length none in
    let less = puts_grow n v g now (records_of before) in omega arith
entered_in n v ms g (r ∷ now) before k (inr i) = entered_in n v ms g now before k.1 i

-- a node that enters a view put nothing there before
pub entered_anew : (c : Config) (w : Scene) → Reached c w → (e : Happening) (before : History) → w.before ≡ e ∷ before → (n : ℕ) (v : ViewId) (ms : List Member) → Has (happened.In n v ms) e.records → (g : List ℕ) → length (puts_of n v g (records_of before)) ≤ 0
entered_anew c w k e before at n v ms i g =
    let rests : (h : List ℕ) → Rests h w = λ h. reached_rests c w k h in
    let told : ToldNow (bases_in w rests) (logs_in w rests) e.records before = λ h. subst (λ b. Told (bases_in w rests h) (logs_in w rests h) (lines_of h b)) at (told_in w rests h) in
    entered_in n v ms g e.records before (fresh_now (bases_in w rests) (logs_in w rests) before e.records told) i

-- what a node is told that all members hold it has put
pub told_held : (c : Config) (w : Scene) → Reached c w → (n : ℕ) (s : Core) → w.cores n ≡ Some s → (p : Packet) → Has p w.sent → (g : List ℕ) (k : ℕ) → Tells s (Given p) g k → k ≤ length (puts_of s.views.me s.views.view g (records_of w.before))
told_held c w r n s up p sent g k t =
    let rests : (h : List ℕ) → Rests h w = λ h. reached_rests c w r h in
    let now : Tells (at_work s) (Given p) g k = ends_told s (Given p) g k t in
    let same : p ≡ now.packet = let e : Given p ≡ Given now.packet = now.given in cc in
    let le : k ≤ len_in (found s g).list = entry_told s.views.view g now.place k now.entry w n (at_work s) now.packet now.says (subst (λ z. Has z w.sent) same sent) (begin_tied g w n s up (rests g)) now.used in
    subst (λ i. k ≤ i) (states_rest w rests n s up g).len le

-- and what it takes as the leader that a member holds
pub acked_held : (c : Config) (w : Scene) → Reached c w → (n : ℕ) (s : Core) → w.cores n ≡ Some s → (p : Packet) → Has p w.sent → (g : List ℕ) (m k : ℕ) → Acknowledges s (Given p) g m k → k ≤ length (puts_of s.views.me s.views.view g (records_of w.before))
acked_held c w r n s up p sent g m k t =
    let rests : (h : List ℕ) → Rests h w = λ h. reached_rests c w r h in
    let now : Acknowledges (at_work s) (Given p) g m k = ends_acked s (Given p) g m k t in
    let same : p ≡ now.packet = let e : Given p ≡ Given now.packet = now.given in cc in
    let le : k ≤ len_in (found s g).list = ack_known s.views.view g k w n (at_work s) now.packet now.says (subst (λ z. Has z w.sent) same sent) (begin_tied g w n s up (rests g)) now.used now.led in
    subst (λ i. k ≤ i) (states_rest w rests n s up g).len le
