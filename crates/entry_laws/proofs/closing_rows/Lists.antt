-- The run's own records have the lists and the bases that the lines of a group have.
use Rattle.std.proofs.Common.{◌≡◌, ◌⊎◌, ◌≤◌, ℕ, List, [], ◌∷◌, ◌++◌, length, take, Option, Some, None, Bool, true, false, refl, sym, ap, ◌∙◌, subst, inl, inr, arith}
use Rattle.std.specs.Prelude.{◌==◌, ◌&&◌, if◌then◌else◌}
use Rattle.std.specs.Str.{bytes_eq}
use Rattle.std.proofs.lemmas.Bool.{eqb-true, eq-eqb}
use Rattle.rsct_packet.specs.declared.ids.ViewId.{ViewId}
use Rattle.rsct_packet.specs.declared.ids.ProviderId.{ProviderId}
use Rattle.rsct_packet.specs.declared.ids.Member.{Member}
use Rattle.rsct_packet.specs.Ids.{same_view}
use Rattle.rsct_packet.specs.Search.{Has}
use Rattle.proposal_core.specs.declared.entry.Entry.{Entry}
use Rattle.proposal_core.specs.declared.group_state.GroupState.{GroupState}
use Rattle.proposal_core.specs.Fold.{empty_state}
use Rattle.node_state.specs.declared.happened.Happened.{Happened}
use Rattle.node_state.specs.declared.happened.Happened.TheVariants as happened
use Rattle.run_safety.specs.Past.{History, records_of, earlier, view_now, puts_of, base_of, fold_from, state_at, state_now}
use Rattle.run_safety.specs.ViewOrder.{is_same, Lt}
use Rattle.run_safety.specs.Sight.{view_or_none, told_in, lines_at, lines_with, lines_of}
use Rattle.run_safety.specs.Group.{Origin, In, Put, Begins, Note, Based, Line, Kept, Noted, kept}
use Rattle.run_safety.specs.Group as group
use Rattle.run_safety.specs.GroupLists.{WasIn}
use Rattle.run_safety.specs.GroupLists as lists
use Rattle.run_safety.specs.Bases.{Bases, base_state, state_of_list}
use Rattle.run_safety.proofs.Order.{eq_true, eq_same, lt_not_same}
use Rattle.run_safety.proofs.Prefix.{IsPrefix}
use Rattle.run_safety.proofs.HeardLaw.{puts_front, take_front}
use Rattle.run_safety.proofs.Tracks.{puts_none}
use Rattle.entry_laws.proofs.closing_rows.Told.{Told, less_one, put_was, note_was}

-- ---- lines of one record

-- a note keeps what is kept
note_kept : (b : Bool) (x : Note) (all : List Line) → kept ((if b then Noted x ∷ [] else []) ++ all) ≡ kept all
note_kept true x all = refl
note_kept false x all = refl

told_kept : (p : ProviderId) (r : ℕ) (o : Option ViewId) (all : List Line) → kept (told_in p r o ++ all) ≡ kept all
told_kept p r None all = refl
told_kept p r (Some v) all = refl

view_same : (a b : ViewId) → same_view a b ≡ is_same a b
unfolding is_same
view_same a b = refl

module _ (n : ℕ) (v : ViewId) (g : List ℕ) where
  -- ---- what is put

  put_step : (r : Happened) (rs : List Happened) (all : List Line) → puts_of n v g rs ≡ lists.puts_of n v (kept all) → puts_of n v g (r ∷ rs) ≡ lists.puts_of n v (kept (lines_at g rs r ++ all))
  put_step (happened.Put m u h i e) rs all k =
      ap (λ c. if m == n && (c && bytes_eq h g) then puts_of n v g rs ++ e ∷ [] else puts_of n v g rs) (view_same u v) ∙ by (m == n) (is_same u v) (bytes_eq h g) refl refl
    where
      there : (b : Bool) → (m == n && is_same u v) ≡ b → lists.puts_of n v (Put m u i e ∷ kept all) ≡ (if b then lists.puts_of n v (kept all) ++ e ∷ [] else lists.puts_of n v (kept all))
      there b p = ap (λ c. if c then lists.puts_of n v (kept all) ++ e ∷ [] else lists.puts_of n v (kept all)) p

      none : (a b : Bool) → (if a && (b && false) then puts_of n v g rs ++ e ∷ [] else puts_of n v g rs) ≡ puts_of n v g rs
      none true true = refl
      none true false = refl
      none false b = refl

      by : (a b c : Bool) → (m == n) ≡ a → is_same u v ≡ b → (if a && (b && c) then puts_of n v g rs ++ e ∷ [] else puts_of n v g rs) ≡ lists.puts_of n v (kept ((if c then Kept (Put m u i e) ∷ [] else []) ++ all))
      by a b false p q = none a b ∙ k
      by true true true p q = ap (λ l. l ++ e ∷ []) k ∙ sym (there true (λ i. p i && q i))
      by true false true p q = k ∙ sym (there false (λ i. p i && q i))
      by false b true p q = k ∙ sym (there false (λ i. p i && is_same u v))
  put_step (happened.Base m u h old len s) rs all k = k ∙ ap (lists.puts_of n v) (sym (note_kept (bytes_eq h g) (Based m u (record { old = old; len = len; state = s })) all))
  put_step (happened.Heard p u h i e ms value) rs all k = k ∙ ap (lists.puts_of n v) (sym (note_kept (bytes_eq h g) (group.Heard p u i e ms value) all))
  put_step (happened.Asked p r h x) rs all k = k ∙ ap (lists.puts_of n v) (sym (note_kept (bytes_eq h g) (group.Asked p r x) all))
  put_step (happened.Told p r why) rs all k = k ∙ ap (lists.puts_of n v) (sym (told_kept p r (view_now p.node rs) all))
  put_step (happened.In m u ms) rs all k = k
  put_step (happened.Up m j) rs all k = k
  put_step (happened.Down m) rs all k = k
  put_step (happened.Ring m network ring ms next) rs all k = k
  put_step (happened.Cast p proto phase vote value message) rs all k = k
  put_step (happened.Noted m client u place note) rs all k = k
  put_step (happened.Refused m client fault) rs all k = k
  put_step (happened.Shown m line) rs all k = k

  puts_now : (now : List Happened) (before : History) → puts_of n v g (records_of before) ≡ lists.puts_of n v (kept (lines_of g before)) → puts_of n v g (earlier now before) ≡ lists.puts_of n v (kept (lines_with g now before (lines_of g before)))
  puts_now [] before k = k
  puts_now (r ∷ now) before k = put_step r (earlier now before) (lines_with g now before (lines_of g before)) (puts_now now before k)

  pub puts_all : (h : History) → puts_of n v g (records_of h) ≡ lists.puts_of n v (kept (lines_of g h))
  puts_all [] = refl
  puts_all (e ∷ before) = puts_now e.records before (puts_all before)

  pub puts_here : (now : List Happened) (before : History) → puts_of n v g (earlier now before) ≡ lists.puts_of n v (kept (lines_with g now before (lines_of g before)))
  puts_here now before = puts_now now before (puts_all before)

  -- ---- the base

  -- one that was noted, or none
  abbrev pub BaseKnown : GroupState → List Line → Type 0
  BaseKnown s all = ((b : Origin) × Has (Noted (Based n v b)) all × (s ≡ b.state)) ⊎ ((s ≡ empty_state) × ((b : Origin) → Has (Noted (Based n v b)) all → ⊥))

  -- a line that is no base of it
  other_base : (s : GroupState) (l : Line) (all : List Line) → ((b : Origin) → Noted (Based n v b) ≡ l → ⊥) → BaseKnown s all → BaseKnown s (l ∷ all)
  other_base s l all other (inl k) = inl (k.0, inr k.1, k.2)
  other_base s l all other (inr k) = inr (k.0, λ b h. at b h)
    where
      at : (b : Origin) → Has (Noted (Based n v b)) (l ∷ all) → ⊥
      at b (inl e) = other b e
      at b (inr h) = k.1 b h

  other_if : (s : GroupState) (c : Bool) (l : Line) (all : List Line) → ((b : Origin) → Noted (Based n v b) ≡ l → ⊥) → BaseKnown s all → BaseKnown s ((if c then l ∷ [] else []) ++ all)
  other_if s true l all other k = other_base s l all other k
  other_if s false l all other k = k

  other_told : (s : GroupState) (p : ProviderId) (r : ℕ) (o : Option ViewId) (all : List Line) → BaseKnown s all → BaseKnown s (told_in p r o ++ all)
  other_told s p r o all k = other_base s (Noted (group.Told p r (view_or_none o))) all (λ b e. cc) k

  base_step : (r : Happened) (rs : List Happened) (all : List Line) → BaseKnown (base_of n v g rs) all → BaseKnown (base_of n v g (r ∷ rs)) (lines_at g rs r ++ all)
  base_step (happened.Base m u h old len s) rs all k =
      subst (λ c. BaseKnown (if m == n && (c && bytes_eq h g) then s else base_of n v g rs) ((if bytes_eq h g then Noted (Based m u o) ∷ [] else []) ++ all)) (sym (view_same u v)) (by (m == n) (is_same u v) (bytes_eq h g) refl refl)
    where
      o : Origin
      o = record { old = old; len = len; state = s }

      none : (a b : Bool) → (if a && (b && false) then s else base_of n v g rs) ≡ base_of n v g rs
      none true true = refl
      none true false = refl
      none false b = refl

      apart : (a b : Bool) → (m == n) ≡ a → is_same u v ≡ b → (a && b) ≡ false → (c : Origin) → Noted (Based n v c) ≡ Noted (Based m u o) → ⊥
      apart a b p q r c e =
          let x : n ≡ m = cc in
          let y : v ≡ u = cc in
          let p' : a ≡ true = sym p ∙ eq-eqb m n (sym x) in
          let q' : b ≡ true = sym q ∙ (ap (is_same u) y ∙ eq_same u) in
          let z : true ≡ false = (λ i. sym p' i && sym q' i) ∙ r in cc

      by : (a b c : Bool) → (m == n) ≡ a → is_same u v ≡ b → BaseKnown (if a && (b && c) then s else base_of n v g rs) ((if c then Noted (Based m u o) ∷ [] else []) ++ all)
      by a b false p q = subst (λ z. BaseKnown z all) (sym (none a b)) k
      by true true true p q =
          let x : m ≡ n = eqb-true m n p in
          let y : u ≡ v = eq_true u v q in inl (o, inl (λ i. Noted (Based (sym x i) (sym y i) o)), refl)
      by true false true p q = other_base (base_of n v g rs) (Noted (Based m u o)) all (apart true false p q refl) k
      by false b true p q = other_base (base_of n v g rs) (Noted (Based m u o)) all (apart false b p q refl) k
  base_step (happened.Put m u h i e) rs all k = other_if (base_of n v g rs) (bytes_eq h g) (Kept (Put m u i e)) all (λ b q. cc) k
  base_step (happened.Heard p u h i e ms value) rs all k = other_if (base_of n v g rs) (bytes_eq h g) (Noted (group.Heard p u i e ms value)) all (λ b q. cc) k
  base_step (happened.Asked p r h x) rs all k = other_if (base_of n v g rs) (bytes_eq h g) (Noted (group.Asked p r x)) all (λ b q. cc) k
  base_step (happened.Told p r why) rs all k = other_told (base_of n v g rs) p r (view_now p.node rs) all k
  base_step (happened.In m u ms) rs all k = other_base (base_of n v g rs) (Kept (In m _ u ms)) all (λ b q. cc) k
  base_step (happened.Up m j) rs all k = k
  base_step (happened.Down m) rs all k = k
  base_step (happened.Ring m network ring ms next) rs all k = k
  base_step (happened.Cast p proto phase vote value message) rs all k = k
  base_step (happened.Noted m client u place note) rs all k = k
  base_step (happened.Refused m client fault) rs all k = k
  base_step (happened.Shown m line) rs all k = k

  base_now : (now : List Happened) (before : History) → BaseKnown (base_of n v g (records_of before)) (lines_of g before) → BaseKnown (base_of n v g (earlier now before)) (lines_with g now before (lines_of g before))
  base_now [] before k = other_base (base_of n v g (records_of before)) (Kept Begins) (lines_of g before) (λ b q. cc) k
  base_now (r ∷ now) before k = base_step r (earlier now before) (lines_with g now before (lines_of g before)) (base_now now before k)

  pub base_all : (h : History) → BaseKnown (base_of n v g (records_of h)) (lines_of g h)
  base_all [] = inr (refl, λ b h. absurd h)
  base_all (e ∷ before) = base_now e.records before (base_all before)

  pub base_here : (now : List Happened) (before : History) → BaseKnown (base_of n v g (earlier now before)) (lines_with g now before (lines_of g before))
  base_here now before = base_now now before (base_all before)

  -- where the node has noted the base of the view, if it has one
  base_is : (bases : Bases) (log : ViewId → List Entry) (s : GroupState) (all : List Line) → Told bases log all → ((b : Origin) → bases v ≡ Some b → Has (Noted (Based n v b)) all) → BaseKnown s all → s ≡ base_state (bases v)
  base_is bases log s all t noted (inl k) = k.2 ∙ ap base_state (sym (t.noted n v k.0 k.1))
  base_is bases log s all t noted (inr k) = k.0 ∙ by (bases v) refl
    where
      by : (o : Option Origin) → bases v ≡ o → empty_state ≡ base_state (bases v)
      by None q = ap base_state (sym q)
      by (Some b) q = absurd (k.1 b (noted b q))

  -- ---- the state

  -- the list of the node is a front of the whole one
  pub front_of : (bases : Bases) (log : ViewId → List Entry) (all : List Line) → Told bases log all → IsPrefix (lists.puts_of n v (kept all)) (log v)
  front_of bases log all t = puts_front n v (log v) (kept all) (λ i e h. t.puts n v i e h) t.places

  take_whole : (i : ℕ) (xs ys : List Entry) → xs ≡ ys → i ≡ length ys → take i xs ≡ ys
  take_whole i xs ys e q = ap (take i) e ∙ ap (λ k. take k ys) q ∙ all ys
    where
      all : (zs : List Entry) → take (length zs) zs ≡ zs
      all [] = refl
      all (z ∷ zs) = ap (λ l. z ∷ l) (all zs)

  -- before a put, the node's list is the front of the whole one
  pub state_before : (bases : Bases) (log : ViewId → List Entry) (i : ℕ) (e : Entry) (now : List Happened) (before : History) → Told bases log (Kept (Put n v i e) ∷ lines_with g now before (lines_of g before)) → state_at n v g i (earlier now before) ≡ state_of_list bases v (take i (log v))
  state_before bases log i e now before t =
      let all : List Line = lines_with g now before (lines_of g before) in
      let less : Told bases log all = less_one bases log (Kept (Put n v i e)) all t in
      let base : base_of n v g (earlier now before) ≡ base_state (bases v) = base_is bases log (base_of n v g (earlier now before)) all less t.in_order.0.1 (base_here now before) in
      let place : i ≡ length (lists.puts_of n v (kept all)) = t.places.0 in
      let own : take i (puts_of n v g (earlier now before)) ≡ lists.puts_of n v (kept all) = take_whole i (puts_of n v g (earlier now before)) (lists.puts_of n v (kept all)) (puts_here now before) place in
      let le : i ≤ length (lists.puts_of n v (kept all)) = omega arith in
      let whole : take i (log v) ≡ lists.puts_of n v (kept all) = take_front i (lists.puts_of n v (kept all)) (log v) (front_of bases log all less) le ∙ take_whole i (lists.puts_of n v (kept all)) (lists.puts_of n v (kept all)) refl place in
      λ j. fold_from v (base j) 0 ((own ∙ sym whole) j)

  -- its place is the next one
  pub place_before : (bases : Bases) (log : ViewId → List Entry) (i : ℕ) (e : Entry) (now : List Happened) (before : History) → Told bases log (Kept (Put n v i e) ∷ lines_with g now before (lines_of g before)) → i ≡ length (puts_of n v g (earlier now before))
  place_before bases log i e now before t = t.places.0 ∙ ap length (sym (puts_here now before))

  -- so the state before it is that which all that the node put makes
  pub now_before : (bases : Bases) (log : ViewId → List Entry) (i : ℕ) (e : Entry) (now : List Happened) (before : History) → Told bases log (Kept (Put n v i e) ∷ lines_with g now before (lines_of g before)) → state_now n v g (earlier now before) ≡ state_of_list bases v (take i (log v))
  now_before bases log i e now before t =
      let xs : List Entry = puts_of n v g (earlier now before) in
      ap (fold_from v (base_of n v g (earlier now before)) 0) (sym (take_whole i xs xs refl (place_before bases log i e now before t))) ∙ state_before bases log i e now before t

  -- a node that enters the view has nothing there
  pub fresh_before : (bases : Bases) (log : ViewId → List Entry) (j : ℕ) (ms : List Member) (now : List Happened) (before : History) → Told bases log (Kept (In n j v ms) ∷ lines_with g now before (lines_of g before)) → (puts_of n v g (earlier now before) ≡ []) × (base_of n v g (earlier now before) ≡ empty_state)
  fresh_before bases log j ms now before t =
      (puts_here now before ∙ puts_none n v (kept all) (λ k e h. unput (put_was bases n v k e all less.in_order h)), base (base_here now before))
    where
      all : List Line
      all = lines_with g now before (lines_of g before)

      less : Told bases log all
      less = less_one bases log (Kept (In n j v ms)) all t

      -- it was not there before
      unput : (i : ℕ) × WasIn (kept all) n i v → ⊥
      unput w =
          let same : j ≡ w.0 = t.single n j w.0 v (ms, inl refl) (w.1.0, inr w.1.1) in
          let lt : Lt v v = t.rises.0 v w.1.0 (subst (λ k. Has (In n k v w.1.0) (kept all)) (sym same) w.1.1) in lt_not_same v v lt refl

      base : BaseKnown (base_of n v g (earlier now before)) all → base_of n v g (earlier now before) ≡ empty_state
      base (inl k) = absurd (unput (note_was bases n v k.0 all less.in_order k.1))
      base (inr k) = k.0

  -- between two events, of a node that is in the view
  pub state_rest : (bases : Bases) (log : ViewId → List Entry) (h : History) → Told bases log (lines_of g h) → ((b : Origin) → bases v ≡ Some b → Has (Noted (Based n v b)) (lines_of g h)) → state_of_list bases v (lists.puts_of n v (kept (lines_of g h))) ≡ fold_from v (base_of n v g (records_of h)) 0 (puts_of n v g (records_of h))
  state_rest bases log h t noted =
      let base : base_of n v g (records_of h) ≡ base_state (bases v) = base_is bases log (base_of n v g (records_of h)) (lines_of g h) t noted (base_all h) in
      let puts : puts_of n v g (records_of h) ≡ lists.puts_of n v (kept (lines_of g h)) = puts_all h in
      λ j. fold_from v (sym base j) 0 (sym puts j)
