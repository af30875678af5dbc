-- From the records of a run alone: along the records of a step the state of a group is what the node's list makes of its base.
use Rattle.std.proofs.Common.{◌≡◌, ℕ, ◌+◌, ◌≤◌, ◌<◌, List, [], ◌∷◌, ◌++◌, length, take, Some, Bool, true, false, refl, sym, ap, ◌∙◌, subst, inl, inr, length-append, arith}
use Rattle.std.specs.Prelude.{◌==◌, ◌&&◌, slice_get, if◌then◌else◌}
use Rattle.std.specs.Str.{bytes_eq}
use Rattle.std.proofs.Math.Seq.{take-length}
use Rattle.std.proofs.lemmas.Bool.{eqb-true, eq-eqb, and_parts}
use Rattle.rsct_packet.specs.declared.ids.ViewId.{ViewId}
use Rattle.rsct_packet.specs.declared.ids.ProviderId.{ProviderId}
use Rattle.rsct_packet.specs.Ids.{same_view}
use Rattle.rsct_packet.specs.Lists.{reverse_onto}
use Rattle.rsct_packet.specs.Search.{Has}
use Rattle.proposal_core.specs.declared.entry.Entry.{Entry}
use Rattle.proposal_core.specs.declared.group_state.GroupState.{GroupState}
use Rattle.proposal_core.specs.Fold.{empty_state, after}
use Rattle.view_state.proofs.ViewOrder.{same_view_is}
use Rattle.node_state.specs.declared.happened.Happened.{Happened}
use Rattle.node_state.specs.declared.happened.Happened.TheVariants as happened
use Rattle.node_state.specs.Handed.{state_then, Logged, logged_if, logged_in}
use Rattle.node_state.proofs.NameOrder.{text_same}
use Rattle.run_safety.specs.Past.{view_now, is_list, puts_of, base_of, fold_from, state_at, state_now}
use Rattle.run_safety.specs.SafeHeard.{latest_put}
use Rattle.run_safety.proofs.HeardLaw.{take_front, get_within}
use Rattle.run_safety.proofs.Prefix.{prefix_push, prefix_get}
use Rattle.step_refinement.proofs.Puts.{fold_pushed}
use Rattle.world_safety.specs.HeardStates.{FoldAt, AreFolds}
use Rattle.run_laws.proofs.failed_causes.Bases.{view_self}

-- ---- what each record needs of those before it, the latest first

-- a node enters views in which it has nothing; it notes the bases of the view that it is in before it puts anything there;
-- it puts entries at the next places of that view's lists; and what its providers hear it put last
abbrev pub Steady : List Happened → Happened → Type 0
Steady rs (happened.In n v ms) = (g : List ℕ) → (puts_of n v g rs ≡ []) × (base_of n v g rs ≡ empty_state)
Steady rs (happened.Base n v g old len s) = (view_now n rs ≡ Some v) × (puts_of n v g rs ≡ [])
Steady rs (happened.Put n v g i e) = (view_now n rs ≡ Some v) × (i ≡ length (puts_of n v g rs))
Steady rs (happened.Heard p v g i e ms value) = (view_now p.node rs ≡ Some v) × (latest_put p.node v g rs ≡ Some (i, e))
Steady rs _ = Unit {0}

abbrev pub AllSteady : List Happened → Type 0
AllSteady [] = Unit {0}
AllSteady (r ∷ rs) = Steady rs r × AllSteady rs

-- the records before the latest ones
steady_onto : (xs rs : List Happened) → AllSteady (reverse_onto xs rs) → AllSteady rs
steady_onto [] rs k = k
steady_onto (x ∷ xs) rs k = (steady_onto xs (x ∷ rs) k).1

-- ---- lists

record IsOf (n : ℕ) (v : ViewId) (g : List ℕ) (m : ℕ) (u : ViewId) (h : List ℕ) : Type 0 where
  node : m ≡ n
  view : u ≡ v
  group : h ≡ g

of_list : (n : ℕ) (v : ViewId) (g : List ℕ) (m : ℕ) (u : ViewId) (h : List ℕ) → is_list n v g m u h ≡ true → IsOf n v g m u h
of_list n v g m u h t =
    let x = and_parts (m == n) (same_view u v && bytes_eq h g) t in
    let y = and_parts (same_view u v) (bytes_eq h g) x.1 in
    record { node = eqb-true m n x.0; view = same_view_is u v y.0; group = text_same h g y.1 }

-- of a node in its view the group alone tells lists apart
here_list : (n : ℕ) (v : ViewId) (g : List ℕ) (m : ℕ) (u : ViewId) (h : List ℕ) → m ≡ n → u ≡ v → is_list n v g m u h ≡ bytes_eq h g
here_list n v g m u h a b =
    let x : (m == n) ≡ true = eq-eqb m n a in
    let y : same_view u v ≡ true = view_self u v b in
    λ i. x i && (y i && bytes_eq h g)

get_pushed : (xs : List Entry) (e : Entry) → slice_get (xs ++ e ∷ []) (length xs) ≡ Some e
get_pushed [] e = refl
get_pushed (x ∷ xs) e = get_pushed xs e

-- ---- what was put last

-- it is the last one of the node's list
record IsLast (xs : List Entry) (i : ℕ) (e : Entry) : Type 0 where
  front : List Entry
  whole : xs ≡ front ++ e ∷ []
  place : i ≡ length front

latest_is : (n : ℕ) (v : ViewId) (g : List ℕ) (i : ℕ) (e : Entry) (rs : List Happened) → AllSteady rs → latest_put n v g rs ≡ Some (i, e) → IsLast (puts_of n v g rs) i e
latest_is n v g i e [] k q = absurd (cc)
latest_is n v g i e (r ∷ rs) k q = by r k.0 q (latest_is n v g i e rs k.1)
  where
    by : (r : Happened) → Steady rs r → latest_put n v g (r ∷ rs) ≡ Some (i, e) → (latest_put n v g rs ≡ Some (i, e) → IsLast (puts_of n v g rs) i e) → IsLast (puts_of n v g (r ∷ rs)) i e
    by (happened.Put m u h k f) s q old = at (is_list n v g m u h) refl q
      where
        at : (b : Bool) → is_list n v g m u h ≡ b → (if b then Some (k, f) else latest_put n v g rs) ≡ Some (i, e) → IsLast (if b then puts_of n v g rs ++ f ∷ [] else puts_of n v g rs) i e
        at false t q = old q
        at true t q =
            let x : IsOf n v g m u h = of_list n v g m u h t in
            let mine : ℕ × Entry = (k, f) in
            let its : ℕ × Entry = (i, e) in
            let z : mine ≡ its = cc in
            let places : k ≡ i = ap (λ (y : ℕ × Entry). y.0) z in
            let entries : f ≡ e = ap (λ (y : ℕ × Entry). y.1) z in
            record {
              front = puts_of n v g rs;
              whole = ap (λ y. puts_of n v g rs ++ y ∷ []) entries;
              place = sym places ∙ (s.1 ∙ (λ j. length (puts_of (x.node j) (x.view j) (x.group j) rs)));
            }
    by _ s q old = old q

-- ---- what was the fold stays it

put_stays : (xs : List Entry) (f : Entry) (b : Bool) (v : ViewId) (base st : GroupState) (i : ℕ) (e : Entry) → (slice_get xs i ≡ Some e) × (st ≡ fold_from v base 0 (take (i + 1) xs))
    → (slice_get (if b then xs ++ f ∷ [] else xs) i ≡ Some e) × (st ≡ fold_from v base 0 (take (i + 1) (if b then xs ++ f ∷ [] else xs)))
put_stays xs f false v base st i e k = k
put_stays xs f true v base st i e k =
    let within : i < length xs = get_within i e xs k.0 in
    let le : i + 1 ≤ length xs = omega (arith, within) in
    (prefix_get xs (xs ++ f ∷ []) (prefix_push xs f) i e k.0, k.1 ∙ ap (fold_from v base 0) (sym (take_front (i + 1) xs (xs ++ f ∷ []) (prefix_push xs f) le)))

stays_one : (r : Happened) (rs : List Happened) → Steady rs r → (what : Happened) (st : GroupState) → FoldAt rs what st → FoldAt (r ∷ rs) what st
stays_one r rs s (happened.Heard p v g i e ms value) st k = by r s
  where
    by : (r : Happened) → Steady rs r → FoldAt (r ∷ rs) (happened.Heard p v g i e ms value) st
    by (happened.Put m u h j f) s = put_stays (puts_of p.node v g rs) f (is_list p.node v g m u h) v (base_of p.node v g rs) st i e k
    by (happened.Base m u h o len x) s = at (is_list p.node v g m u h) refl
      where
        at : (b : Bool) → is_list p.node v g m u h ≡ b → (slice_get (puts_of p.node v g rs) i ≡ Some e) × (st ≡ fold_from v (if b then x else base_of p.node v g rs) 0 (take (i + 1) (puts_of p.node v g rs)))
        at false t = k
        at true t =
            let y : IsOf p.node v g m u h = of_list p.node v g m u h t in
            let none : puts_of p.node v g rs ≡ [] = (λ j. puts_of (sym y.node j) (sym y.view j) (sym y.group j) rs) ∙ s.1 in
            let nil : List Entry = [] in
            let gone : slice_get nil i ≡ Some e = subst (λ z. slice_get z i ≡ Some e) none k.0 in
            absurd (cc)
    by _ s = k
stays_one r rs s _ st k = tt

one_stays : (r : Happened) (rs : List Happened) (ls : List Logged) → Steady rs r → AreFolds rs ls → AreFolds (r ∷ rs) ls
one_stays r rs [] s k = tt
one_stays r rs (l ∷ ls) s k = (stays_one r rs s l.what l.after k.0, one_stays r rs ls s k.1)

pub folds_onto : (xs rs : List Happened) (ls : List Logged) → AllSteady (reverse_onto xs rs) → AreFolds rs ls → AreFolds (reverse_onto xs rs) ls
folds_onto [] rs ls all k = k
folds_onto (x ∷ xs) rs ls all k = folds_onto xs (x ∷ rs) ls all (one_stays x rs ls (steady_onto xs (x ∷ rs) all).0 k)

pub folds_both : (rs : List Happened) (xs ys : List Logged) → AreFolds rs xs → AreFolds rs ys → AreFolds rs (xs ++ ys)
folds_both rs [] ys a b = b
folds_both rs (x ∷ xs) ys a b = (a.0, folds_both rs xs ys a.1 b)

-- ---- along the records of a step of node n

-- a record of the node's own: nothing starts or stops
abbrev pub Own : ℕ → Happened → Type 0
Own n (happened.Up m j) = ⊥
Own n (happened.Down m) = ⊥
Own n (happened.In m v ms) = m ≡ n
Own n (happened.Base m v g u len s) = m ≡ n
Own n (happened.Put m v g i e) = m ≡ n
Own n (happened.Heard p v g i e ms value) = p.node ≡ n
Own n _ = Unit {0}

-- the node is in a view, and these are the states of its groups there
pub record Tracks (n : ℕ) (rs : List Happened) (states : List ℕ → GroupState) : Type 0 where
  pub view : ViewId
  pub is : view_now n rs ≡ Some view
  pub folds : (g : List ℕ) → states g ≡ state_now n view g rs

some_view : (u v : ViewId) → Some u ≡ Some v → u ≡ v
some_view u v e = cc

module _ (n : ℕ) where
  entered : (m : ℕ) (v : ViewId) (rs : List Happened) → m ≡ n → (if m == n then Some v else view_now n rs) ≡ Some v
  entered m v rs e = ap (λ b. if b then Some v else view_now n rs) (eq-eqb m n e)

  -- the node's view, as a record of its own names it
  same_place : (m : ℕ) (u v : ViewId) (rs : List Happened) → m ≡ n → view_now m rs ≡ Some u → view_now n rs ≡ Some v → u ≡ v
  same_place m u v rs own at is = some_view u v (sym at ∙ (ap (λ k. view_now k rs) own ∙ is))

  track : (r : Happened) (rs : List Happened) (states : List ℕ → GroupState) → Own n r → Steady rs r → Tracks n rs states → Tracks n (r ∷ rs) (λ g. state_then g r (states g))
  track (happened.Up m j) rs states own s k = absurd own
  track (happened.Down m) rs states own s k = absurd own
  track (happened.In m u ms) rs states own s k = record { view = u; is = entered m u rs own; folds = bare }
    where
      bare : (g : List ℕ) → empty_state ≡ fold_from u (base_of n u g rs) 0 (puts_of n u g rs)
      bare g =
          let puts : puts_of n u g rs ≡ [] = ap (λ j. puts_of j u g rs) (sym own) ∙ (s g).0 in
          let base : base_of n u g rs ≡ empty_state = ap (λ j. base_of j u g rs) (sym own) ∙ (s g).1 in
          λ j. fold_from u (sym base j) 0 (sym puts j)
  track (happened.Base m u h old len x) rs states own s k = record { view = k.view; is = k.is; folds = λ g. at g (bytes_eq h g) refl }
    where
      same : u ≡ k.view
      same = same_place m u k.view rs own s.0 k.is

      based : (g : List ℕ) (b : Bool) → bytes_eq h g ≡ b → (if b then x else states g) ≡ fold_from k.view (if b then x else base_of n k.view g rs) 0 (puts_of n k.view g rs)
      based g false t = k.folds g
      based g true t =
          let puts : puts_of n k.view g rs ≡ [] = (λ j. puts_of (sym own j) (sym same j) (sym (text_same h g t) j) rs) ∙ s.1 in
          ap (fold_from k.view x 0) (sym puts)

      at : (g : List ℕ) (b : Bool) → bytes_eq h g ≡ b → (if bytes_eq h g then x else states g) ≡ fold_from k.view (if is_list n k.view g m u h then x else base_of n k.view g rs) 0 (puts_of n k.view g rs)
      at g b t =
          let list : is_list n k.view g m u h ≡ b = here_list n k.view g m u h own same ∙ t in
          ap (λ c. if c then x else states g) t ∙ (based g b t ∙ ap (λ c. fold_from k.view (if c then x else base_of n k.view g rs) 0 (puts_of n k.view g rs)) (sym list))
  track (happened.Put m u h i e) rs states own s k = record { view = k.view; is = k.is; folds = λ g. at g (bytes_eq h g) refl }
    where
      same : u ≡ k.view
      same = same_place m u k.view rs own s.0 k.is

      pushed : (g : List ℕ) (b : Bool) → bytes_eq h g ≡ b → (if b then after (states g) u i e else states g) ≡ fold_from k.view (base_of n k.view g rs) 0 (if b then puts_of n k.view g rs ++ e ∷ [] else puts_of n k.view g rs)
      pushed g false t = k.folds g
      pushed g true t =
          let xs : List Entry = puts_of n k.view g rs in
          let place : i ≡ length xs = s.1 ∙ (λ j. length (puts_of (own j) (same j) (text_same h g t j) rs)) in
          let from : i ≡ 0 + length xs = omega (arith, place) in
          (λ j. after (k.folds g j) (same j) (from j) e) ∙ sym (fold_pushed k.view xs (base_of n k.view g rs) 0 e)

      at : (g : List ℕ) (b : Bool) → bytes_eq h g ≡ b → (if bytes_eq h g then after (states g) u i e else states g) ≡ fold_from k.view (base_of n k.view g rs) 0 (if is_list n k.view g m u h then puts_of n k.view g rs ++ e ∷ [] else puts_of n k.view g rs)
      at g b t =
          let list : is_list n k.view g m u h ≡ b = here_list n k.view g m u h own same ∙ t in
          ap (λ c. if c then after (states g) u i e else states g) t ∙ (pushed g b t ∙ ap (λ c. fold_from k.view (base_of n k.view g rs) 0 (if c then puts_of n k.view g rs ++ e ∷ [] else puts_of n k.view g rs)) (sym list))
  track _ rs states own s k = record { view = k.view; is = k.is; folds = k.folds }

  -- what is heard comes with the state after what was put last
  heard_fold : (p : ProviderId) (v : ViewId) (g : List ℕ) (i : ℕ) (e : Entry) (rs : List Happened) (states : List ℕ → GroupState) → p.node ≡ n → view_now p.node rs ≡ Some v → latest_put p.node v g rs ≡ Some (i, e) → AllSteady rs → Tracks n rs states
      → (slice_get (puts_of p.node v g rs) i ≡ Some e) × (states g ≡ state_at p.node v g (i + 1) rs)
  heard_fold p v g i e rs states own at put all k =
      let xs : List Entry = puts_of p.node v g rs in
      let x : IsLast xs i e = latest_is p.node v g i e rs all put in
      let pushed : length xs ≡ length x.front + 1 = ap length x.whole ∙ length-append x.front (e ∷ []) in
      let reach : i + 1 ≡ length xs = ap (λ z. z + 1) x.place ∙ sym pushed in
      let same : v ≡ k.view = same_place p.node v k.view rs own at k.is in
      let front : take (i + 1) xs ≡ xs = ap (λ z. take z xs) reach ∙ take-length xs in
      let now : states g ≡ state_now p.node v g rs = k.folds g ∙ (λ j. state_now (sym own j) (sym same j) g rs) in
      ((λ j. slice_get (x.whole j) (x.place j)) ∙ get_pushed x.front e, now ∙ ap (fold_from v (base_of p.node v g rs) 0) (sym front))

  one_fold : (r : Happened) (rs : List Happened) (states : List ℕ → GroupState) → Own n r → Steady rs r → AllSteady rs → Tracks n rs states → AreFolds (r ∷ rs) (logged_if r states)
  one_fold (happened.Heard p v g i e ms value) rs states own s all k = (heard_fold p v g i e rs states own s.0 s.1 all k, tt)
  one_fold (happened.Cast p proto phase vote value message) rs states own s all k = (tt, tt)
  one_fold (happened.Told p r why) rs states own s all k = (tt, tt)
  one_fold (happened.Noted m c v i y) rs states own s all k = (tt, tt)
  one_fold _ rs states own s all k = tt

  -- what a step tells was heard comes with the folds
  pub told_folds : (xs rs : List Happened) (states : List ℕ → GroupState) → ((r : Happened) → Has r xs → Own n r) → AllSteady (reverse_onto xs rs) → Tracks n rs states → AreFolds (reverse_onto xs rs) (logged_in xs states)
  told_folds [] rs states own all k = tt
  told_folds (x ∷ xs) rs states own all k =
      let here : Steady rs x × AllSteady rs = steady_onto xs (x ∷ rs) all in
      let one : AreFolds (x ∷ rs) (logged_if x states) = one_fold x rs states (own x (inl refl)) here.0 here.1 k in
      folds_both (reverse_onto xs (x ∷ rs)) (logged_if x states) (logged_in xs (λ g. state_then g x (states g)))
      (folds_onto xs (x ∷ rs) (logged_if x states) all one)
      (told_folds xs (x ∷ rs) (λ g. state_then g x (states g)) (λ r h. own r (inr h)) all (track x rs states (own x (inl refl)) here.0 k))
