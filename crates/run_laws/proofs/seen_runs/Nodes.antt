-- Nodes and their incarnations: each start is a later one, and a node is in the view that it entered last, as a member of its
-- incarnation.
use Rattle.std.proofs.Common.{◌<◌, refl, ◌≡◌, ℕ, ◌≤◌, inl, inr, sym, ◌∙◌, ap, subst, true, false, Bool, List, [], ◌∷◌, ◌++◌, Option, Some, arith}
use Rattle.std.specs.Prelude.{◌==◌, ◌&&◌, IsTrue, if◌then◌else◌}
use Rattle.std.proofs.lemmas.Bool.{eqb-true}
use Rattle.std.proofs.lemmas.Bool.Decides.{nat_tests}
use Rattle.rsct_packet.specs.declared.ids.Member.{Member}
use Rattle.rsct_packet.specs.declared.ids.ViewId.{ViewId}
use Rattle.rsct_packet.specs.Ids.{is_member}
use Rattle.rsct_packet.specs.Search.{Has}
use Rattle.node_state.specs.declared.happened.Happened.{Happened}
use Rattle.node_state.specs.declared.happened.Happened.TheVariants as happened
use Rattle.run_safety.specs.ViewOrder.{is_before, Lt}
use Rattle.run_safety.specs.Group.{member, Record, In, Put, Begins, kept}
use Rattle.run_safety.specs.Past.{History, records_of, Within, view_now, inc_now}
use Rattle.run_safety.specs.Sight.{inc_in, lines_of}
use Rattle.run_safety.specs.SafeLists.{InItsView, is_later, Rising, AmongMembers}
use Rattle.run_safety.proofs.Tests.{has_any}
use Rattle.run_laws.specs.seen_runs.Seen.{StartsLater, StartedSeen}
use Rattle.run_laws.proofs.seen_runs.LineRules.{bare, Entered, last_in, GoesOn, InSeen, PutSeen}
use Rattle.run_laws.proofs.seen_runs.BareLines.{kept_bare}
use Rattle.run_laws.proofs.seen_runs.Sights.{cut, last_same, last_groups}
use Rattle.run_laws.proofs.seen_runs.Shown.{AllShow, shown_before, in_line, put_line}
use Rattle.run_laws.proofs.seen_runs.Steps.{Mine}

-- of each record
pub record NodeShown (rs : List Happened) (r : Happened) : Type 0 where
  pub later : StartsLater rs r
  pub rising : Rising rs r
  pub among : AmongMembers rs r
  pub started : StartedSeen rs r
  pub in_view : InItsView rs r

-- ---- within a step of node n, in incarnation inc

-- the node is in the view that it entered last, in this incarnation
pub record Here (n inc : ℕ) (now : List Happened) (before : History) : Type 0 where
  pub view : ViewId
  pub last : last_in n (kept (lines_of [] (cut now before))) ≡ Some (record { inc = inc; view = view })
  pub is : view_now n (now ++ records_of before) ≡ Some view
  pub inc_is : inc_now n (now ++ records_of before) ≡ inc
  pub up : 0 < inc

last_was : (n j : ℕ) (v : ViewId) (tr : List Record) → last_in n tr ≡ Some (record { inc = j; view = v }) → (ms : List Member) × Has (In n j v ms) tr
last_was n j v [] e = absurd (cc)
last_was n j v (Put m u i x ∷ tr) e = let k = last_was n j v tr e in (k.0, inr k.1)
last_was n j v (Begins ∷ tr) e = let k = last_was n j v tr e in (k.0, inr k.1)
last_was n j v (In m i u ms ∷ tr) e = by (m == n) refl e (last_was n j v tr)
  where
    Was : Type 0
    Was = (os : List Member) × Has (In n j v os) (In m i u ms ∷ tr)

    by : (b : Bool) → (m == n) ≡ b → (if b then Some (record { inc = i; view = u }) else last_in n tr) ≡ Some (record { inc = j; view = v }) → (last_in n tr ≡ Some (record { inc = j; view = v }) → (os : List Member) × Has (In n j v os) tr) → Was
    by true q s old =
        let a : m ≡ n = eqb-true m n q in
        let mine : Entered = record { inc = i; view = u } in
        let its : Entered = record { inc = j; view = v } in
        let s' : Some mine ≡ Some its = s in
        let z : mine ≡ its = cc in
        let b : i ≡ j = ap (λ (x : Entered). x.inc) z in
        let c : u ≡ v = ap (λ (x : Entered). x.view) z in
        (ms, inl (λ t. In (sym a t) (sym b t) (sym c t) ms))
    by false q s old = let k = old s in (k.0, inr k.1)

module _ (n inc : ℕ) (before : History) where
  -- what is entered in the step is entered in no later incarnation
  abbrev pub Bounded : List Happened → Type 0
  Bounded now = (v : ViewId) (ms : List Member) → Has (happened.In n v ms) now → inc_in n ms ≤ inc

  -- what a record of the node's own makes of where it is, and what it shows
  one : (r : Happened) (now : List Happened) → Mine n r → Bounded (r ∷ now) → AllShow (cut (r ∷ now) before) → Here n inc now before → Here n inc (r ∷ now) before × NodeShown (now ++ records_of before) r
  unfolding is_before
  one (happened.Up m j) now mine bound all h = absurd mine
  one (happened.Down m) now mine bound all h = absurd mine
  one (happened.Put m v g i e) now mine bound all h =
      (record { view = h.view; last = last_same n (happened.Put m v g i e) now before (λ v k ns z. cc) ∙ h.last; is = h.is; inc_is = h.inc_is; up = h.up }, record { later = tt; rising = tt; among = tt; started = tt; in_view = in_its })
    where
      q : PutSeen (bare (lines_of g (cut now before))) m v i e
      q = put_line now before m v g i e all

      -- the same in the lines of each group
      there : last_in n (kept (lines_of g (cut now before))) ≡ Some (record { inc = inc; view = h.view })
      there = last_groups n g now before ∙ h.last

      in_its : view_now m (now ++ records_of before) ≡ Some v
      in_its =
          let a : last_in m (kept (lines_of g (cut now before))) ≡ Some (record { inc = q.inc; view = v }) = sym (ap (last_in m) (kept_bare (lines_of g (cut now before)))) ∙ q.view in
          let b : last_in n (kept (lines_of g (cut now before))) ≡ Some (record { inc = q.inc; view = v }) = ap (λ k. last_in k (kept (lines_of g (cut now before)))) (sym mine) ∙ a in
          let mine_is : Entered = record { inc = inc; view = h.view } in
          let its : Entered = record { inc = q.inc; view = v } in
          let c : Some mine_is ≡ Some its = sym there ∙ b in
          let d : mine_is ≡ its = cc in
          ap (λ k. view_now k (now ++ records_of before)) mine ∙ h.is ∙ ap (λ (x : Entered). Some x.view) d
  one (happened.In m v ms) now mine bound all h =
      (record { view = v; last = last; is = is; inc_is = h.inc_is; up = h.up }, record { later = tt; rising = rising; among = among; started = begun; in_view = tt })
    where
      q : InSeen (bare (lines_of [] (cut now before))) m (inc_in m ms) v ms
      q = in_line now before m v ms all []

      older : last_in m (kept (bare (lines_of [] (cut now before)))) ≡ Some (record { inc = inc; view = h.view })
      older = ap (last_in m) (kept_bare (lines_of [] (cut now before))) ∙ ap (λ k. last_in k (kept (lines_of [] (cut now before)))) mine ∙ h.last

      -- the incarnation is the node's
      inc_same : inc_in m ms ≡ inc
      inc_same =
          let a : inc ≤ inc_in m ms = subst (GoesOn (inc_in m ms)) older q.on in
          let b : inc_in n ms ≤ inc = bound v ms (inl (λ i. happened.In (sym mine i) v ms)) in
          let c : inc_in m ms ≤ inc = subst (λ k. inc_in k ms ≤ inc) (sym mine) b in
          omega arith

      last : last_in n (In m (inc_in m ms) v ms ∷ kept (lines_of [] (cut now before))) ≡ Some (record { inc = inc; view = v })
      last = by (m == n) refl
        where
          by : (b : Bool) → (m == n) ≡ b → (if b then Some (record { inc = inc_in m ms; view = v }) else last_in n (kept (lines_of [] (cut now before)))) ≡ Some (record { inc = inc; view = v })
          by true e = λ i. Some (record { inc = inc_same i; view = v })
          by false e = absurd (let z : (m == n) ≡ true = subst (λ k. (m == k) ≡ true) mine (grind (arith, nat_tests)) in cc)

      is : (if m == n then Some v else view_now n (now ++ records_of before)) ≡ Some v
      is = let e : m ≡ n = mine in grind (arith, nat_tests)

      among : IsTrue (is_member ms m (inc_now m (now ++ records_of before)))
      among =
          let a : inc_now m (now ++ records_of before) ≡ inc_in m ms = ap (λ k. inc_now k (now ++ records_of before)) mine ∙ h.inc_is ∙ sym inc_same in
          subst (λ k. is_member ms m k ≡ true) (sym a) (has_any (λ (x : Member). x.node == m && x.inc == inc_in m ms) ms (member m (inc_in m ms)) q.own (own_test m (inc_in m ms)))
        where
          own_test : (a b : ℕ) → (a == a && b == b) ≡ true
          own_test a b = grind (arith, nat_tests)

      begun : (0 < inc_now m (now ++ records_of before)) × (inc_in m ms ≡ inc_now m (now ++ records_of before))
      begun =
          let a : inc_now m (now ++ records_of before) ≡ inc = ap (λ k. inc_now k (now ++ records_of before)) mine ∙ h.inc_is in
          (subst (λ k. 0 < k) (sym a) h.up, inc_same ∙ sym a)

      rising : Rising (now ++ records_of before) (happened.In m v ms)
      rising =
          let k = last_was m inc h.view (kept (bare (lines_of [] (cut now before)))) older in
          let l : Lt h.view v = q.rising h.view k.0 (subst (λ z. Has (In m z h.view k.0) (kept (bare (lines_of [] (cut now before))))) (sym inc_same) k.1) in
          let s : view_now m (now ++ records_of before) ≡ Some h.view = ap (λ k. view_now k (now ++ records_of before)) mine ∙ h.is in
          at (view_now m (now ++ records_of before)) s l
        where
          at : (o : Option ViewId) → o ≡ Some h.view → Lt h.view v → IsTrue (is_later o v)
          at o e l = subst (λ z. IsTrue (is_later z v)) (sym e) l
  one r now mine bound all h =
      (record { view = h.view; last = last_same n r now before (λ v k ns z. cc) ∙ h.last; is = h.is; inc_is = h.inc_is; up = h.up }, record { later = tt; rising = tt; among = tt; started = tt; in_view = tt })

  -- all records of a step
  pub step_shown : (now : List Happened) → ((r : Happened) → Has r now → Mine n r) → Bounded now → AllShow (cut now before) → Here n inc [] before → Here n inc now before × Within (λ now before r. NodeShown (now ++ records_of before) r) now before
  step_shown [] mine bound all h = (h, tt)
  step_shown (r ∷ now) mine bound all h =
      let k = step_shown now (λ q i. mine q (inr i)) (λ v ms i. bound v ms (inr i)) (shown_before r now before all) h in
      let x = one r now (mine r (inl refl)) bound all k.0 in
      (x.0, (x.1, k.1))
