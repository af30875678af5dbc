-- In every scene that events lead to, each node starts later each time, and is in its view as a member.
use Rattle.std.proofs.Common.{refl, ◌≡◌, ℕ, ◌+◌, ◌<◌, ◌≤◌, ◌⊎◌, ⊎_elim, inl, inr, sym, ◌∙◌, ap, subst, true, false, List, [], ◌∷◌, ◌++◌, Option, Some, None, arith}
use Rattle.std.specs.Prelude.{◌==◌, ◌&&◌, reverse, map}
use Rattle.std.proofs.lemmas.List.{append-nil}
use Rattle.std.proofs.lemmas.Bool.Decides.{nat_tests}
use Rattle.rsct_packet.specs.declared.ids.Member.{Member}
use Rattle.rsct_packet.specs.declared.ids.ViewId.{ViewId}
use Rattle.rsct_packet.specs.Ids.{is_member}
use Rattle.rsct_packet.specs.Mask.{nodes_of}
use Rattle.rsct_packet.specs.Search.{Has}
use Rattle.rsct_packet.proofs.HasLaws.{has_append, append_has_left, has_reverse}
use Rattle.node_state.specs.declared.config.Config.{Config}
use Rattle.node_state.specs.declared.config.Mode.{Mode}
use Rattle.node_state.specs.declared.config.Mode.TheVariants.{Fixed, Asked, Rings}
use Rattle.node_state.specs.declared.happened.Happened.{Happened}
use Rattle.node_state.specs.declared.happened.Happened.TheVariants as happened
use Rattle.node_state.specs.declared.state.Core.{Core}
use Rattle.node_state.specs.Settings.{is_fixed}
use Rattle.node_state.specs.HandOn.{Answering}
use Rattle.node_state.specs.Step.{NodeEvent, stepped, started, first_view, first_members, own_rings, ring_record}
use Rattle.world_model.specs.declared.event.Event.{Event}
use Rattle.run_safety.specs.Group.{member, In, kept}
use Rattle.run_safety.specs.Past.{History, records_of, inc_now}
use Rattle.run_safety.specs.Sight.{inc_in}
use Rattle.run_safety.specs.SafeLists.{Each}
use Rattle.run_safety.proofs.Tests.{has_any}
use Rattle.run_safety.proofs.Lives.{whole}
use Rattle.step_refinement.specs.Tied.{Scene, NodeIs, NodeIsIf}
use Rattle.step_refinement.specs.Rules.{at_node, over, ended, with_records, all_started, Arises}
use Rattle.step_refinement.specs.Runs.{IsNote, Reached, Nothing, AllStart, Starts, Stops, Steps, Notes}
use Rattle.step_refinement.proofs.Changed.{set_here, each_set}
use Rattle.step_refinement.proofs.RunLaw.{reached_rests}
use Rattle.run_induction.proofs.Ran.{Opened, opened_inc, all_start_holds}
use Rattle.row_laws.proofs.hearing.Listening.{steps_change}
use Rattle.row_laws.proofs.hearing.Incarnations.{incs_of}
use Rattle.run_laws.proofs.seen_runs.LineRules.{bare, last_in, LinesSeen}
use Rattle.run_laws.proofs.seen_runs.LineLaws.{lines_seen}
use Rattle.run_laws.proofs.seen_runs.LastViews.{at_last}
use Rattle.run_laws.proofs.seen_runs.Froms.{in_kept}
use Rattle.run_laws.proofs.seen_runs.Shown.{AllShow}
use Rattle.run_laws.proofs.seen_runs.Steps.{Mine, step_mine}
use Rattle.run_laws.proofs.seen_runs.Nodes.{NodeShown, Here, step_shown}
use Rattle.run_laws.proofs.seen_runs.Starting.{AllIn, start_within, start_records, start_ups}

pub all_show : (c : Config) (w : Scene) → Reached c w → AllShow w.before
all_show c w k g = let t = reached_rests c w k g in subst (λ l. LinesSeen (bare l)) t.lines (lines_seen t.life)

-- numbers of incarnations rise
record Numbers (incs : ℕ → ℕ) (before : History) : Type 0 where
  upto : (m k : ℕ) → Has (happened.Up m k) (records_of before) → k ≤ incs m
  rules : Each NodeShown before

-- ---- records by which no node starts

abbrev Quiet : Happened → Type 0
Quiet (happened.Up m j) = ⊥
Quiet _ = Unit {0}

mine_quiet : (n : ℕ) (r : Happened) → Mine n r → Quiet r
mine_quiet n (happened.Up m j) a = a
mine_quiet n _ a = tt

note_quiet : (r : Happened) → IsNote r → Quiet r
note_quiet (happened.Refused m c f) a = tt
note_quiet (happened.Shown m l) a = tt
note_quiet _ a = absurd a

note_shown : (rs : List Happened) (r : Happened) → IsNote r → NodeShown rs r
note_shown rs (happened.Refused m c f) a = record { later = tt; rising = tt; among = tt; started = tt; in_view = tt }
note_shown rs (happened.Shown m l) a = record { later = tt; rising = tt; among = tt; started = tt; in_view = tt }
note_shown rs _ a = absurd a

quiet_up : (m k : ℕ) (rs xs : List Happened) → ((r : Happened) → Has r rs → Quiet r) → Has (happened.Up m k) (rs ++ xs) → Has (happened.Up m k) xs
quiet_up m k rs xs q h = ⊎_elim (λ (a : Has (happened.Up m k) rs). absurd (q (happened.Up m k) a)) (λ (a : Has (happened.Up m k) xs). a) (has_append (happened.Up m k) rs xs h)

-- an event by whose records no node starts
quietly : (incs : ℕ → ℕ) (before : History) (o : Option Event) (rs : List Happened) → ((r : Happened) → Has r rs → Quiet r) → AllIn rs before → Numbers incs before → Numbers incs (record { event = o; records = rs } ∷ before)
quietly incs before o rs quiet all k =
    record {
      upto = λ m j h. k.upto m j (quiet_up m j rs (records_of before) quiet h);
      rules = (all, k.rules);
    }

notes_in : (rs : List Happened) (before : History) → ((r : Happened) → Has r rs → IsNote r) → AllIn rs before
notes_in [] before notes = tt
notes_in (r ∷ rs) before notes = (note_shown (rs ++ records_of before) r (notes r (inl refl)), notes_in rs before (λ q h. notes q (inr h)))

-- ---- a start

first_member : (c : Config) (n j : ℕ) → is_fixed c.mode ≡ false → is_member (first_members c c.mode n j) n j ≡ true
unfolding first_members
first_member c n j real = by c.mode real
  where
    by : (m : Mode) → is_fixed m ≡ false → is_member (first_members c m n j) n j ≡ true
    by Fixed e = absurd (cc)
    by Asked e = grind (arith, nat_tests)
    by Rings e = grind (arith, nat_tests)

fixed_member : (c : Config) (n : ℕ) → is_fixed c.mode ≡ true → Has n (nodes_of c.nodes) → is_member (first_members c c.mode n 1) n 1 ≡ true
unfolding first_members
fixed_member c n fixed there = by c.mode fixed
  where
    each : (xs : List ℕ) → Has n xs → is_member (map (λ k. member k 1) xs) n 1 ≡ true
    each xs h = has_any (λ (m : Member). m.node == n && m.inc == 1) (map (λ k. member k 1) xs) (member n 1) (mapped xs h) (own n)
      where
        mapped : (xs : List ℕ) → Has n xs → Has (member n 1) (map (λ k. member k 1) xs)
        mapped [] h = h
        mapped (x ∷ xs) (inl e) = inl (ap (λ k. member k 1) e)
        mapped (x ∷ xs) (inr h) = inr (mapped xs h)

        own : (k : ℕ) → (k == k && 1 == 1) ≡ true
        own k = grind (arith, nat_tests)

    by : (m : Mode) → is_fixed m ≡ true → is_member (first_members c m n 1) n 1 ≡ true
    by Fixed e = each (nodes_of c.nodes) there
    by Asked e = absurd (cc)
    by Rings e = absurd (cc)

first_inc : (c : Config) (n j : ℕ) → is_fixed c.mode ≡ false → inc_in n (first_members c c.mode n j) ≡ j
unfolding first_members
first_inc c n j real = by c.mode real
  where
    by : (m : Mode) → is_fixed m ≡ false → inc_in n (first_members c m n j) ≡ j
    by Fixed e = absurd (cc)
    by Asked e = grind (arith, nat_tests)
    by Rings e = grind (arith, nat_tests)

inc_listed : (n : ℕ) (xs : List ℕ) → Has n xs → inc_in n (map (λ k. member k 1) xs) ≡ 1
inc_listed n [] h = absurd h
inc_listed n (x ∷ xs) (inl e) = grind (arith, nat_tests)
inc_listed n (x ∷ xs) (inr h) = let k : inc_in n (map (λ k. member k 1) xs) ≡ 1 = inc_listed n xs h in grind (arith, nat_tests)

fixed_inc : (c : Config) (n : ℕ) → is_fixed c.mode ≡ true → Has n (nodes_of c.nodes) → inc_in n (first_members c c.mode n 1) ≡ 1
unfolding first_members
fixed_inc c n fixed there = by c.mode fixed
  where
    by : (m : Mode) → is_fixed m ≡ true → inc_in n (first_members c m n 1) ≡ 1
    by Fixed e = inc_listed n (nodes_of c.nodes) there
    by Asked e = absurd (cc)
    by Rings e = absurd (cc)

-- a node starts in an event that has these records already
started_too : (c : Config) (n : ℕ) (incs : ℕ → ℕ) (o q : Option Event) (now : List Happened) (before : History) → is_member (first_members c c.mode n (incs n + 1)) n (incs n + 1) ≡ true → inc_in n (first_members c c.mode n (incs n + 1)) ≡ incs n + 1 → Numbers incs (record { event = o; records = now } ∷ before) → Numbers (at_node incs n (incs n + 1)) (record { event = q; records = reverse (started c n (incs n + 1)).records ++ now } ∷ before)
started_too c n incs o q now before member own k =
    record {
      upto = λ m i h. bounded m i (start_ups c n j now before m i (subst (λ l. Has (happened.Up m i) (l ++ records_of before)) is h));
      rules = (subst (λ l. AllIn l before) (sym is) shown.0, k.rules.1);
    }
  where
    j : ℕ
    j = incs n + 1

    is : reverse (started c n j).records ++ now ≡ happened.In n (first_view c c.mode n j) (first_members c c.mode n j) ∷ (reverse (map (ring_record n) (own_rings c c.mode n j)) ++ happened.Up n j ∷ now)
    is = start_records c n j now before

    shown : AllIn (happened.In n (first_view c c.mode n j) (first_members c c.mode n j) ∷ (reverse (map (ring_record n) (own_rings c c.mode n j)) ++ happened.Up n j ∷ now)) before × (inc_now n ((happened.In n (first_view c c.mode n j) (first_members c c.mode n j) ∷ (reverse (map (ring_record n) (own_rings c c.mode n j)) ++ happened.Up n j ∷ now)) ++ records_of before) ≡ j)
    shown = start_within c n j now before (λ i h. let l = k.upto n i h in omega arith) member own (omega arith) k.rules.0

    grows : (m : ℕ) → incs m ≤ at_node incs n (incs n + 1) m
    grows m = each_set (λ m (x : ℕ). incs m ≤ x) incs n (incs n + 1) (omega arith) (λ m ne. omega arith) m

    bounded : (m i : ℕ) → ((m ≡ n) × (i ≡ j)) ⊎ Has (happened.Up m i) (now ++ records_of before) → i ≤ at_node incs n (incs n + 1) m
    bounded m i (inl e) = subst (λ z. i ≤ at_node incs n (incs n + 1) z) (sym e.0) (subst (λ z. i ≤ z) (sym (set_here incs n (incs n + 1))) (let z = e.1 in omega arith))
    bounded m i (inr h) = let a = k.upto m i h in let b = grows m in omega arith

-- ---- in mode fixed all start at once

all_numbered : (c : Config) → is_fixed c.mode ≡ true → Numbers (all_started c).incs (all_started c).before
all_numbered c fixed = (all_start_holds c (λ w. Numbers w.incs w.before) one (record { upto = λ m k h. absurd h; rules = (tt, tt) })).1
  where
    one : (w : Scene) (n : ℕ) → Opened c w → Has n (nodes_of c.nodes) → w.cores n ≡ None → Numbers w.incs w.before → Numbers (at_node w.incs n (w.incs n + 1)) (with_records w.before (started w.config n (w.incs n + 1)).records)
    one w n k there down numbers =
        let member : is_member (first_members w.config w.config.mode n (w.incs n + 1)) n (w.incs n + 1) ≡ true = subst (λ (z : Config × ℕ). is_member (first_members z.0 z.0.mode n (z.1 + 1)) n (z.1 + 1) ≡ true) (λ i. (sym k.config i, sym (opened_inc c w n k down) i)) (fixed_member c n fixed there) in
        let own : inc_in n (first_members w.config w.config.mode n (w.incs n + 1)) ≡ w.incs n + 1 = subst (λ (z : Config × ℕ). inc_in n (first_members z.0 z.0.mode n (z.1 + 1)) ≡ z.1 + 1) (λ i. (sym k.config i, sym (opened_inc c w n k down) i)) (fixed_inc c n fixed there) in
        subst (λ h. Numbers (at_node w.incs n (w.incs n + 1)) (with_records h (started w.config n (w.incs n + 1)).records)) (sym k.before) (started_too w.config n w.incs None None k.records [] member own (subst (Numbers w.incs) k.before numbers))

-- ---- a step

numbers_step : (c : Config) (w : Scene) (n : ℕ) (f : Answering) (s : Core) (e : NodeEvent) (v : Event) (k : Reached c w) (up : w.cores n ≡ Some s) (arises : Arises w e) → Numbers w.incs w.before → Numbers w.incs (over v (stepped f s e) ∷ w.before)
numbers_step c w n f s e v k up arises old =
    quietly w.incs w.before (Some v) rs (λ r h. mine_quiet n r (mine r h)) all old
  where
    rs : List Happened
    rs = reverse (stepped f s e).records

    w' : Scene
    w' = ended w n v (stepped f s e)

    after : Reached c w'
    after = Steps w n f s e v k up arises

    own : NodeIs (reached_rests c w k []).ghost [] n s × (s.config ≡ w.config) × (s.views.inc ≡ w.incs n)
    own = subst (NodeIsIf w.config (reached_rests c w k []).ghost [] n (w.incs n)) up ((reached_rests c w k []).nodes n)

    mine : (r : Happened) → Has r rs → Mine n r
    mine r h = step_mine f s e n own.0.stands.me (steps_change c w k n s up f e) r (has_reverse r (stepped f s e).records h)

    -- before the step
    here : Here n (w.incs n) [] w.before
    here =
        let t = reached_rests c w k [] in
        let a : 0 < (t.ghost.nodes n).inc = subst (λ z. 0 < z) (sym own.0.stands.inc) own.0.stands.up in
        record {
          view = s.views.view;
          last = ap (λ l. last_in n (kept l)) (sym t.lines) ∙ (at_last t.life n).0 a ∙ (λ i. Some (record { inc = (own.0.stands.inc ∙ own.2) i; view = own.0.stands.view i }));
          is = t.placed n s up;
          inc_is = incs_of c w k n;
          up = subst (λ z. 0 < z) (own.0.stands.inc ∙ own.2) a;
        }

    -- after it
    bound : (u : ViewId) (ms : List Member) → Has (happened.In n u ms) rs → inc_in n ms ≤ w.incs n
    bound u ms h =
        let t = reached_rests c w' after [] in
        let is_up : w'.cores n ≡ Some (stepped f s e) = set_here w.cores n (Some (stepped f s e)) in
        let its = subst (NodeIsIf w.config t.ghost [] n (w.incs n)) is_up (t.nodes n) in
        let there : Has (In n (inc_in n ms) u ms) (kept t.ghost.all) = subst (λ l. Has (In n (inc_in n ms) u ms) (kept l)) (sym t.lines) (in_kept [] n u ms w'.before (append_has_left (happened.In n u ms) rs (records_of w.before) h)) in
        let b = (whole t.life).good.inv.records (In n (inc_in n ms) u ms) there in
        let inc_is : (t.ghost.nodes n).inc ≡ w.incs n = its.0.stands.inc ∙ its.2 in
        ⊎_elim (λ (l : inc_in n ms < (t.ghost.nodes n).inc). omega (arith, l, inc_is)) (λ (l : (inc_in n ms ≡ (t.ghost.nodes n).inc) × _). let z = l.0 in omega (arith, z, inc_is)) b

    all : AllIn rs w.before
    all = (step_shown n (w.incs n) w.before rs mine bound (λ g. all_show c w' after g) here).1

-- ---- every scene

numbered : (c : Config) (w : Scene) → Reached c w → Numbers w.incs w.before
numbered c _ Nothing = record { upto = λ m k h. absurd h; rules = tt }
numbered c _ (AllStart fixed) = all_numbered c fixed
numbered c _ (Starts w n e k real nz down) =
    let old = numbered c w k in
    let z = started_too w.config n w.incs None (Some e) [] w.before (first_member w.config n (w.incs n + 1) real) (first_inc w.config n (w.incs n + 1) real) (quietly w.incs w.before None [] (λ r h. absurd h) tt old) in
    subst (λ l. Numbers (at_node w.incs n (w.incs n + 1)) (record { event = Some e; records = l } ∷ w.before)) (append-nil (reverse (started w.config n (w.incs n + 1)).records)) z
numbered c _ (Stops w n e s k up) =
    quietly w.incs w.before (Some e) (happened.Down n ∷ []) (λ r h. down r h) (record { later = tt; rising = tt; among = tt; started = tt; in_view = tt }, tt) (numbered c w k)
  where
    down : (r : Happened) → Has r (happened.Down n ∷ []) → Quiet r
    down r (inl q) = subst Quiet (sym q) tt
    down r (inr q) = absurd q
numbered c _ (Steps w n f s e v k up arises) = numbers_step c w n f s e v k up arises (numbered c w k)
numbered c _ (Notes w e rs k notes) =
    quietly w.incs w.before (Some e) (reverse rs) (λ r h. note_quiet r (notes r (has_reverse r rs h))) (notes_in (reverse rs) w.before (λ r h. notes r (has_reverse r rs h))) (numbered c w k)

pub nodes_shown : (c : Config) (w : Scene) → Reached c w → Each NodeShown w.before
nodes_shown c w k = (numbered c w k).rules
