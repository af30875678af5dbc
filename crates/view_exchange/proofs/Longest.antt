-- An install carries the longest lists, whatever the order in which answers came.
use Rattle.std.proofs.Common.{◌≡◌, ℕ, ◌<◌, ◌≤◌, ◌⊎◌, Bool, true, false, cond, List, [], ◌∷◌, ◌++◌, Option, Some, None, refl, sym, ap, subst, ◌∙◌, append_assoc, append-nil, inl, inr, ⊎_elim, arith}
use Rattle.std.specs.Prelude.{map, ◌==◌, ◌||◌, ◌&&◌, nat_lt}
use Rattle.std.proofs.lemmas.Bool.{cases_lt}
use Rattle.std.proofs.lemmas.Bool.Decides.{nat_tests}
use Rattle.std.proofs.lemmas.Slice.Eq.{bytes_eq-Decides}
use Rattle.rsct_packet.specs.declared.ids.ViewId.{ViewId}
use Rattle.rsct_packet.specs.declared.mask.Mask.{Mask}
use Rattle.rsct_packet.specs.Ids.{same_view}
use Rattle.rsct_packet.specs.Search.{Has, place_where, edit_where, insert_before}
use Rattle.rsct_packet.proofs.HasLaws.{has_append, append_has_left, append_has_right, has_map, map_has}
use Rattle.rsct_packet.proofs.SearchLaws.{place_has}
use Rattle.view_state.specs.declared.answer.Answer.{Answer}
use Rattle.view_state.specs.declared.exchange.Exchange.{Exchange}
use Rattle.view_state.specs.declared.sides.Kept.{Kept}
use Rattle.view_state.specs.declared.sides.Side.{Side}
use Rattle.view_state.specs.declared.install.Part.{Part}
use Rattle.view_state.specs.declared.install.Source.{Source}
use Rattle.view_state.specs.Parts.{part_len}
use Rattle.view_state.specs.Answers.{opened, kept_of, is_beaten, better_of, is_kept_of, is_kept_above, with_kept_at, with_kept, with_parts, side_with, side_from, is_side_of, is_side_above, with_side_at, with_side, with_answer, source_of, install_of}
use Rattle.view_exchange.specs.Longest.{all_counted, Brings, NoWorse, IsLongest, CarriesLongest, NamesDiffer, LongestAreCarried}
use Rattle.view_state.proofs.ViewOrder.{same_view_is}
use Rattle.view_exchange.proofs.Edits.{inserted_has, has_inserted, Once, edited_has, has_edited, none_placed}

-- ---- what is no worse

worse_itself : (p : Part) (n : ℕ) → NoWorse p n p n
worse_itself p n = inr (refl, omega arith)

worse_trans : (p q r : Part) (n m l : ℕ) → NoWorse p n q m → NoWorse q m r l → NoWorse p n r l
worse_trans p q r n m l (inl a) (inl b) = inl (omega arith)
worse_trans p q r n m l (inl a) (inr b) = let e = b.0 in inl (omega arith)
worse_trans p q r n m l (inr a) (inl b) = let e = a.0 in inl (omega arith)
worse_trans p q r n m l (inr a) (inr b) = let e = a.0 in let f = b.0 in let g = a.1 in let h = b.1 in inr (omega arith, omega arith)

beaten_is_worse : (a b n m : ℕ) → (nat_lt a b || (a == b && nat_lt n m)) ≡ true → (a < b) ⊎ ((a ≡ b) × (n ≤ m))
beaten_is_worse a b n m e =
    elim (cases_lt a b) [
      | inl lt ↦ inl lt
      | inr le ↦ inr (grind (arith, nat_tests), grind (arith, nat_tests))
    ]

unbeaten_is_better : (a b n m : ℕ) → (nat_lt a b || (a == b && nat_lt n m)) ≡ false → (b < a) ⊎ ((b ≡ a) × (m ≤ n))
unbeaten_is_better a b n m e =
    elim (cases_lt b a) [
      | inl lt ↦ inl lt
      | inr le ↦ inr (grind (arith, nat_tests), grind (arith, nat_tests))
    ]

-- ---- the kept lists of one view

abbrev i_name : Kept → List ℕ
i_name k = k.part.name

named_is : (name : List ℕ) (k : Kept) → is_kept_of name k ≡ true → k.part.name ≡ name
named_is name k e = (bytes_eq-Decides k.part.name name).0 e

is_named : (name : List ℕ) (k : Kept) → k.part.name ≡ name → is_kept_of name k ≡ true
is_named name k e = (bytes_eq-Decides k.part.name name).1 e

not_named : (name : List ℕ) (k : Kept) → is_kept_of name k ≡ false → k.part.name ≡ name → ⊥
not_named name k f e = let t = is_named name k e in cc

abbrev Differ : List Kept → Type 0
Differ [] = Unit {0}
Differ (k ∷ ks) = ((j : Kept) → Has j ks → j.part.name ≡ k.part.name → ⊥) × Differ ks

record Holds (offers : Kept → Type 0) (ks : List Kept) : Type 0 where
  from : (k : Kept) → Has k ks → offers k
  best : (k : Kept) → Has k ks → (o : Kept) → offers o → o.part.name ≡ k.part.name → NoWorse k.part k.node o.part o.node
  each : (o : Kept) → offers o → (k : Kept) × Has k ks × (k.part.name ≡ o.part.name)
  differ : Differ ks

holds_along : (o p : Kept → Type 0) (ks : List Kept) → ((k : Kept) → o k → p k) → ((k : Kept) → p k → o k) → Holds o ks → Holds p ks
holds_along o p ks to back h = record {
  from = λ k m. to k (h.from k m);
  best = λ k m x y e. h.best k m x (back x y) e;
  each = λ x y. h.each x (back x y);
  differ = h.differ;
}

not_true_is : (b : Bool) → (b ≡ true → ⊥) → b ≡ false
not_true_is true h = absurd (h refl)
not_true_is false h = refl

once_named : (name : List ℕ) (ks : List Kept) → Differ ks → Once (is_kept_of name) ks
once_named name [] d = tt
once_named name (k ∷ ks) d =
    (λ t j h. not_true_is (is_kept_of name j) (λ s. d.0 j h (named_is name j s ∙ sym (named_is name k t))), once_named name ks d.1)

better_name : (new k : Kept) → k.part.name ≡ new.part.name → (better_of new k).part.name ≡ new.part.name
better_name new k e = by (is_beaten k new.node (part_len new.part))
  where
    by : (t : Bool) → i_name (elim t [ true ↦ new | false ↦ k ]) ≡ new.part.name
    by true = refl
    by false = e

record Betters (new k r : Kept) : Type 0 where
  either : (r ≡ new) ⊎ (r ≡ k)
  over_new : NoWorse r.part r.node new.part new.node
  over_old : NoWorse r.part r.node k.part k.node

better_is : (new k : Kept) → Betters new k (better_of new k)
better_is new k = by (is_beaten k new.node (part_len new.part)) refl
  where
    by : (t : Bool) → is_beaten k new.node (part_len new.part) ≡ t → Betters new k (elim t [ true ↦ new | false ↦ k ])
    by true e = record { either = inl refl; over_new = worse_itself new.part new.node; over_old = beaten_is_worse (part_len k.part) (part_len new.part) new.node k.node e }
    by false e = record { either = inr refl; over_new = unbeaten_is_better (part_len k.part) (part_len new.part) new.node k.node e; over_old = worse_itself k.part k.node }

edit_differ : (new : Kept) (ks : List Kept) → Differ ks → Differ (edit_where (is_kept_of new.part.name) (better_of new) ks)
edit_differ new [] d = tt
edit_differ new (k ∷ ks) d = by (is_kept_of new.part.name k) refl (edit_differ new ks d.1)
  where
    by : (t : Bool) → is_kept_of new.part.name k ≡ t → Differ (edit_where (is_kept_of new.part.name) (better_of new) ks) → Differ (cond t (better_of new k ∷ ks) (k ∷ edit_where (is_kept_of new.part.name) (better_of new) ks))
    by true e more = (λ j h s. d.0 j h (s ∙ (better_name new k (named_is new.part.name k e) ∙ sym (named_is new.part.name k e))), d.1)
    by false e more = (
      λ j h s.
          ⊎_elim (λ (r : Has j ks × (is_kept_of new.part.name j ≡ false)). d.0 j r.0 s)
          (λ (r : (i : Kept) × Has i ks × (is_kept_of new.part.name i ≡ true) × (j ≡ better_of new i)).
          let same : i_name r.0 ≡ i_name j = sym (ap i_name r.3 ∙ (better_name new r.0 (named_is new.part.name r.0 r.2) ∙ sym (named_is new.part.name r.0 r.2))) in
          d.0 r.0 r.1 (same ∙ s))
          (edited_has (is_kept_of new.part.name) (better_of new) j ks (once_named new.part.name ks d.1) h),
      more,
    )

insert_differ : (test : Kept → Bool) (new : Kept) (ks : List Kept) → Differ ks → ((k : Kept) → Has k ks → k.part.name ≡ new.part.name → ⊥) → Differ (insert_before test new ks)
insert_differ test new [] d none = (λ j h s. h, tt)
insert_differ test new (k ∷ ks) d none = by (test k) (insert_differ test new ks d.1 (λ j h. none j (inr h)))
  where
    by : (t : Bool) → Differ (insert_before test new ks) → Differ (cond t (new ∷ k ∷ ks) (k ∷ insert_before test new ks))
    by true more = (λ j h s. none j h s, d)
    by false more = (
      λ j h s.
          ⊎_elim (λ (e : j ≡ new). none k (inl refl) (sym (sym (ap i_name e) ∙ s)))
          (λ (r : Has j ks). d.0 j r s)
          (inserted_has test new j ks h),
      more,
    )

kept_holds_at : (offers : Kept → Type 0) (ks : List Kept) (new : Kept) (o : Option ℕ) → place_where (is_kept_of new.part.name) ks ≡ o → Holds offers ks → Holds (λ k. offers k ⊎ (k ≡ new)) (with_kept_at ks new o)
kept_holds_at offers ks new None e h =
    let none : (k : Kept) → Has k ks → k.part.name ≡ new.part.name → ⊥ = λ k m s. not_named new.part.name k (none_placed (is_kept_of new.part.name) ks k e m) s in
    let above : Kept → Bool = is_kept_above new.part.name in
    record {
      from = λ k m. ⊎_elim (λ (s : k ≡ new). inr s) (λ (r : Has k ks). inl (h.from k r)) (inserted_has above new k ks m);
      best = λ k m o y s.
          ⊎_elim
          (λ (e : k ≡ new).
          ⊎_elim (λ (r : offers o). let x = h.each o r in absurd (none x.0 x.1 (x.2 ∙ (s ∙ ap i_name e))))
          (λ (r : o ≡ new). subst (λ (z : Kept). NoWorse z.part z.node o.part o.node) (r ∙ sym e) (worse_itself o.part o.node)) y)
          (λ (r : Has k ks).
          ⊎_elim (λ (q : offers o). h.best k r o q s)
          (λ (q : o ≡ new). absurd (none k r (sym s ∙ ap i_name q))) y)
          (inserted_has above new k ks m);
      each = λ o y.
          ⊎_elim (λ (r : offers o). let x = h.each o r in (x.0, has_inserted above new x.0 ks (inr x.1), x.2))
          (λ (r : o ≡ new). (new, has_inserted above new new ks (inl refl), sym (ap i_name r))) y;
      differ = insert_differ above new ks h.differ none;
    }
kept_holds_at offers ks new (Some i) e h =
    let test : Kept → Bool = is_kept_of new.part.name in
    let once : Once test ks = once_named new.part.name ks h.differ in
    let kept : (x : Kept) → Has x ks → (k : Kept) × Has k (edit_where test (better_of new) ks) × (k.part.name ≡ x.part.name) =
    λ x m.
    ⊎_elim (λ (r : Has x (edit_where test (better_of new) ks)). (x, r, refl))
    (λ (r : (test x ≡ true) × Has (better_of new x) (edit_where test (better_of new) ks)).
    (better_of new x, r.1, better_name new x (named_is new.part.name x r.0) ∙ sym (named_is new.part.name x r.0)))
    (has_edited test (better_of new) x ks m)
    in
    record {
      from = λ k m.
          ⊎_elim (λ (r : Has k ks × (test k ≡ false)). inl (h.from k r.0))
          (λ (r : (j : Kept) × Has j ks × (test j ≡ true) × (k ≡ better_of new j)).
          ⊎_elim (λ (s : better_of new r.0 ≡ new). inr (r.3 ∙ s))
          (λ (s : better_of new r.0 ≡ r.0). inl (subst offers (sym (r.3 ∙ s)) (h.from r.0 r.1)))
          (better_is new r.0).either)
          (edited_has test (better_of new) k ks once m);
      best = λ k m o y s.
          ⊎_elim
          (λ (r : Has k ks × (test k ≡ false)).
          ⊎_elim (λ (q : offers o). h.best k r.0 o q s)
          (λ (q : o ≡ new). absurd (not_named new.part.name k r.1 (sym s ∙ ap i_name q))) y)
          (λ (r : (j : Kept) × Has j ks × (test j ≡ true) × (k ≡ better_of new j)).
          let b = better_is new r.0 in
          let name : k.part.name ≡ r.0.part.name = ap i_name r.3 ∙ (better_name new r.0 (named_is new.part.name r.0 r.2) ∙ sym (named_is new.part.name r.0 r.2)) in
          subst (λ (z : Kept). NoWorse z.part z.node o.part o.node) (sym r.3)
          (⊎_elim (λ (q : offers o). worse_trans (better_of new r.0).part r.0.part o.part (better_of new r.0).node r.0.node o.node b.over_old (h.best r.0 r.1 o q (s ∙ name)))
          (λ (q : o ≡ new). subst (λ (z : Kept). NoWorse (better_of new r.0).part (better_of new r.0).node z.part z.node) (sym q) b.over_new) y))
          (edited_has test (better_of new) k ks once m);
      each = λ o y.
          ⊎_elim (λ (r : offers o). let x = h.each o r in let k = kept x.0 x.1 in (k.0, k.1, k.2 ∙ x.2))
          (λ (r : o ≡ new).
          let x = place_has test ks i e in
          let k = kept x.0 x.1 in
          (k.0, k.1, k.2 ∙ (named_is new.part.name x.0 x.2 ∙ sym (ap i_name r)))) y;
      differ = edit_differ new ks h.differ;
    }

kept_holds : (offers : Kept → Type 0) (ks : List Kept) (new : Kept) → Holds offers ks → Holds (λ k. offers k ⊎ (k ≡ new)) (with_kept ks new)
unfolding with_kept
kept_holds offers ks new h = kept_holds_at offers ks new (place_where (is_kept_of new.part.name) ks) refl h

parts_hold : (offers : Kept → Type 0) (n : ℕ) (ks : List Kept) (ps : List Part) → Holds offers ks → Holds (λ k. offers k ⊎ Has k (map (kept_of n) ps)) (with_parts n ks ps)
unfolding with_parts
parts_hold offers n ks [] h = holds_along offers (λ k. offers k ⊎ Has k []) ks (λ k o. inl o) (λ k o. ⊎_elim (λ (a : offers k). a) (λ (b : Has k []). absurd b) o) h
parts_hold offers n ks (p ∷ ps) h =
    holds_along (λ k. (offers k ⊎ (k ≡ kept_of n p)) ⊎ Has k (map (kept_of n) ps)) (λ k. offers k ⊎ Has k (map (kept_of n) (p ∷ ps))) (with_parts n (with_kept ks (kept_of n p)) ps)
    (λ k o.
    ⊎_elim (λ (a : offers k ⊎ (k ≡ kept_of n p)). ⊎_elim (λ (c : offers k). inl c) (λ (c : k ≡ kept_of n p). inr (inl c)) a)
    (λ (b : Has k (map (kept_of n) ps)). inr (inr b)) o)
    (λ k o.
    ⊎_elim (λ (a : offers k). inl (inl a))
    (λ (b : Has k (map (kept_of n) (p ∷ ps))). ⊎_elim (λ (c : k ≡ kept_of n p). inl (inr c)) (λ (c : Has k (map (kept_of n) ps)). inr c) b) o)
    (parts_hold (λ k. offers k ⊎ (k ≡ kept_of n p)) n (with_kept ks (kept_of n p)) ps (kept_holds offers ks (kept_of n p) h))

-- the lists of one answer, whose names differ

map_differ : (n : ℕ) (ps : List Part) → NamesDiffer ps → Differ (map (kept_of n) ps)
map_differ n [] d = tt
map_differ n (p ∷ ps) d =
    (λ j h s. let m = has_map (kept_of n) j ps h in d.0 m.0 m.1 (sym (ap i_name m.2) ∙ s), map_differ n ps d.1)

same_named : (n : ℕ) (ks : List Kept) → Differ ks → (k o : Kept) → Has k ks → Has o ks → o.part.name ≡ k.part.name → o ≡ k
same_named n [] d k o h m s = absurd h
same_named n (x ∷ xs) d k o (inl a) (inl b) s = b ∙ sym a
same_named n (x ∷ xs) d k o (inl a) (inr b) s = absurd (d.0 o b (s ∙ ap i_name a))
same_named n (x ∷ xs) d k o (inr a) (inl b) s = absurd (d.0 k a (sym s ∙ ap i_name b))
same_named n (x ∷ xs) d k o (inr a) (inr b) s = same_named n xs d.1 k o a b s

first_hold : (n : ℕ) (ps : List Part) → NamesDiffer ps → Holds (λ k. Has k (map (kept_of n) ps)) (map (kept_of n) ps)
first_hold n ps d = record {
  from = λ k h. h;
  best = λ k h o m s. subst (λ (z : Kept). NoWorse k.part k.node z.part z.node) (sym (same_named n (map (kept_of n) ps) (map_differ n ps d) k o h m s)) (worse_itself k.part k.node);
  each = λ o h. (o, h, refl);
  differ = map_differ n ps d;
}

-- ---- the sides of all views

brings_more : (given : List Answer) (a : Answer) (v : ViewId) (n : ℕ) (p : Part) → Brings given v n p → Brings (given ++ a ∷ []) v n p
brings_more given a v n p b = record { answer = b.answer; came = append_has_left b.answer given (a ∷ []) b.came; view = b.view; node = b.node; part = b.part }

brings_last : (given : List Answer) (a : Answer) (p : Part) → Has p a.parts → Brings (given ++ a ∷ []) a.view a.node p
brings_last given a p h = record { answer = a; came = append_has_right a given (a ∷ []) (inl refl); view = refl; node = refl; part = h }

-- what was brought was brought before, or by the last answer
record ByLast (a : Answer) (v : ViewId) (n : ℕ) (p : Part) : Type 0 where
  view : a.view ≡ v
  node : a.node ≡ n
  part : Has p a.parts

brings_split : (given : List Answer) (a : Answer) (v : ViewId) (n : ℕ) (p : Part) → Brings (given ++ a ∷ []) v n p → Brings given v n p ⊎ ByLast a v n p
brings_split given a v n p b =
    ⊎_elim (λ (h : Has b.answer given). inl (record { answer = b.answer; came = h; view = b.view; node = b.node; part = b.part }))
    (λ (h : Has b.answer (a ∷ [])).
    ⊎_elim (λ (e : b.answer ≡ a).
    inr
    (record {
      view = subst (λ (z : Answer). z.view ≡ v) e b.view;
      node = subst (λ (z : Answer). z.node ≡ n) e b.node;
      part = subst (λ (z : Answer). Has p z.parts) e b.part;
    })) (λ (none : ⊥). absurd none) h)
    (has_append b.answer given (a ∷ []) b.came)

abbrev Offered : List Answer → ViewId → Kept → Type 0
Offered given v k = Brings given v k.node k.part

abbrev ViewsDiffer : List Side → Type 0
ViewsDiffer [] = Unit {0}
ViewsDiffer (s ∷ ss) = ((t : Side) → Has t ss → t.view ≡ s.view → ⊥) × ViewsDiffer ss

record SidesHold (given : List Answer) (ss : List Side) : Type 0 where
  hold : (s : Side) → Has s ss → Holds (Offered given s.view) s.parts
  each : (v : ViewId) (n : ℕ) (p : Part) → Brings given v n p → (s : Side) × Has s ss × (s.view ≡ v)
  differ : ViewsDiffer ss

-- the offers of a side, once an answer of its view came
offered_last : (given : List Answer) (a : Answer) (v : ViewId) → a.view ≡ v → (k : Kept) → Offered given v k ⊎ Has k (map (kept_of a.node) a.parts) → Offered (given ++ a ∷ []) v k
offered_last given a v e k o =
    ⊎_elim (λ (h : Offered given v k). brings_more given a v k.node k.part h)
    (λ (h : Has k (map (kept_of a.node) a.parts)).
    let m = has_map (kept_of a.node) k a.parts h in
    subst (λ (u : ViewId). Brings (given ++ a ∷ []) u k.node k.part) e
    (subst (λ (z : Kept). Brings (given ++ a ∷ []) a.view z.node z.part) (sym m.2) (brings_last given a m.0 m.1))) o

last_offered : (given : List Answer) (a : Answer) (v : ViewId) → (k : Kept) → Offered (given ++ a ∷ []) v k → Offered given v k ⊎ Has k (map (kept_of a.node) a.parts)
last_offered given a v k b =
    ⊎_elim (λ (h : Brings given v k.node k.part). inl h)
    (λ (h : ByLast a v k.node k.part).
    let same : kept_of a.node k.part ≡ k = ap (λ (n : ℕ). kept_of n k.part) h.node in
    inr (subst (λ (z : Kept). Has z (map (kept_of a.node) a.parts)) same (map_has (kept_of a.node) k.part a.parts h.part)))
    (brings_split given a v k.node k.part b)

-- a side of another view has the same offers
other_offered : (given : List Answer) (a : Answer) (v : ViewId) → (v ≡ a.view → ⊥) → (k : Kept) → Offered (given ++ a ∷ []) v k → Offered given v k
other_offered given a v apart k b =
    ⊎_elim (λ (h : Brings given v k.node k.part). h) (λ (h : ByLast a v k.node k.part). absurd (apart (sym h.view))) (brings_split given a v k.node k.part b)

with_holds : (given : List Answer) (a : Answer) (s : Side) → s.view ≡ a.view → Holds (Offered given s.view) s.parts → Holds (Offered (given ++ a ∷ []) (side_with a s).view) (side_with a s).parts
unfolding side_with
with_holds given a s e h =
    holds_along (λ k. Offered given s.view k ⊎ Has k (map (kept_of a.node) a.parts)) (Offered (given ++ a ∷ []) s.view) (with_parts a.node s.parts a.parts)
    (offered_last given a s.view (sym e))
    (last_offered given a s.view)
    (parts_hold (Offered given s.view) a.node s.parts a.parts h)

from_holds : (given : List Answer) (a : Answer) → NamesDiffer a.parts → ((n : ℕ) (p : Part) → Brings given a.view n p → ⊥) → Holds (Offered (given ++ a ∷ []) (side_from a).view) (side_from a).parts
unfolding side_from
from_holds given a d none =
    holds_along (λ k. Has k (map (kept_of a.node) a.parts)) (Offered (given ++ a ∷ []) a.view) (map (kept_of a.node) a.parts)
    (λ k h. offered_last given a a.view refl k (inr h))
    (λ k b. ⊎_elim (λ (h : Offered given a.view k). absurd (none k.node k.part h)) (λ (h : Has k (map (kept_of a.node) a.parts)). h) (last_offered given a a.view k b))
    (first_hold a.node a.parts d)

with_view : (a : Answer) (s : Side) → (side_with a s).view ≡ s.view
unfolding side_with
with_view a s = refl

from_view : (a : Answer) → (side_from a).view ≡ a.view
unfolding side_from
from_view a = refl

view_is : (v : ViewId) (s : Side) → is_side_of v s ≡ true → s.view ≡ v
view_is v s e = same_view_is s.view v e

same_itself : (v : ViewId) → same_view v v ≡ true
same_itself v = grind (arith, nat_tests)

not_view : (v : ViewId) (s : Side) → is_side_of v s ≡ false → s.view ≡ v → ⊥
not_view v s f e = let t : same_view s.view v ≡ true = subst (λ (z : ViewId). same_view z v ≡ true) (sym e) (same_itself v) in cc

abbrev s_view : Side → ViewId
s_view s = s.view

once_view : (v : ViewId) (ss : List Side) → ViewsDiffer ss → Once (is_side_of v) ss
once_view v [] d = tt
once_view v (s ∷ ss) d =
    (λ e t h. not_true_is (is_side_of v t) (λ f. d.0 t h (view_is v t f ∙ sym (view_is v s e))), once_view v ss d.1)

views_edited : (a : Answer) (ss : List Side) → ViewsDiffer ss → ViewsDiffer (edit_where (is_side_of a.view) (side_with a) ss)
views_edited a [] d = tt
views_edited a (s ∷ ss) d = by (is_side_of a.view s) refl (views_edited a ss d.1)
  where
    by : (t : Bool) → is_side_of a.view s ≡ t → ViewsDiffer (edit_where (is_side_of a.view) (side_with a) ss) → ViewsDiffer (cond t (side_with a s ∷ ss) (s ∷ edit_where (is_side_of a.view) (side_with a) ss))
    by true e more = (λ t h f. d.0 t h (f ∙ with_view a s), d.1)
    by false e more = (
      λ t h f.
          ⊎_elim (λ (r : Has t ss × (is_side_of a.view t ≡ false)). d.0 t r.0 f)
          (λ (r : (u : Side) × Has u ss × (is_side_of a.view u ≡ true) × (t ≡ side_with a u)). d.0 r.0 r.1 (sym (with_view a r.0) ∙ (sym (ap s_view r.3) ∙ f)))
          (edited_has (is_side_of a.view) (side_with a) t ss (once_view a.view ss d.1) h),
      more,
    )

views_inserted : (test : Side → Bool) (new : Side) (ss : List Side) → ViewsDiffer ss → ((s : Side) → Has s ss → s.view ≡ new.view → ⊥) → ViewsDiffer (insert_before test new ss)
views_inserted test new [] d none = (λ t h e. h, tt)
views_inserted test new (s ∷ ss) d none = by (test s) (views_inserted test new ss d.1 (λ t h. none t (inr h)))
  where
    by : (t : Bool) → ViewsDiffer (insert_before test new ss) → ViewsDiffer (cond t (new ∷ s ∷ ss) (s ∷ insert_before test new ss))
    by true more = (λ t h e. none t h e, d)
    by false more = (
      λ t h e.
          ⊎_elim (λ (r : t ≡ new). none s (inl refl) (sym (sym (ap s_view r) ∙ e))) (λ (r : Has t ss). d.0 t r e) (inserted_has test new t ss h),
      more,
    )

side_holds_at : (given : List Answer) (ss : List Side) (a : Answer) (o : Option ℕ) → place_where (is_side_of a.view) ss ≡ o → NamesDiffer a.parts → SidesHold given ss → SidesHold (given ++ a ∷ []) (with_side_at ss a o)
side_holds_at given ss a None e d h =
    let none : (s : Side) → Has s ss → s.view ≡ a.view → ⊥ = λ s m f. not_view a.view s (none_placed (is_side_of a.view) ss s e m) f in
    let above : Side → Bool = is_side_above a.view in
    let nobody : (n : ℕ) (p : Part) → Brings given a.view n p → ⊥ = λ n p b. let x = h.each a.view n p b in none x.0 x.1 x.2 in
    record {
      hold = λ s m.
          ⊎_elim (λ (r : s ≡ side_from a). subst (λ (z : Side). Holds (Offered (given ++ a ∷ []) z.view) z.parts) (sym r) (from_holds given a d nobody))
          (λ (r : Has s ss).
          holds_along (Offered given s.view) (Offered (given ++ a ∷ []) s.view) s.parts (λ k b. brings_more given a s.view k.node k.part b)
          (other_offered given a s.view (none s r)) (h.hold s r))
          (inserted_has above (side_from a) s ss m);
      each = λ v n p b.
          ⊎_elim (λ (r : Brings given v n p). let x = h.each v n p r in (x.0, has_inserted above (side_from a) x.0 ss (inr x.1), x.2))
          (λ (r : ByLast a v n p). (side_from a, has_inserted above (side_from a) (side_from a) ss (inl refl), from_view a ∙ r.view))
          (brings_split given a v n p b);
      differ = views_inserted above (side_from a) ss h.differ (λ s m f. none s m (f ∙ from_view a));
    }
side_holds_at given ss a (Some i) e d h =
    let test : Side → Bool = is_side_of a.view in
    let once : Once test ss = once_view a.view ss h.differ in
    let kept : (x : Side) → Has x ss → (s : Side) × Has s (edit_where test (side_with a) ss) × (s.view ≡ x.view) =
    λ x m.
    ⊎_elim (λ (r : Has x (edit_where test (side_with a) ss)). (x, r, refl))
    (λ (r : (test x ≡ true) × Has (side_with a x) (edit_where test (side_with a) ss)). (side_with a x, r.1, with_view a x))
    (has_edited test (side_with a) x ss m)
    in
    record {
      hold = λ s m.
          ⊎_elim
          (λ (r : Has s ss × (test s ≡ false)).
          holds_along (Offered given s.view) (Offered (given ++ a ∷ []) s.view) s.parts (λ k b. brings_more given a s.view k.node k.part b)
          (other_offered given a s.view (not_view a.view s r.1)) (h.hold s r.0))
          (λ (r : (u : Side) × Has u ss × (test u ≡ true) × (s ≡ side_with a u)).
          subst (λ (z : Side). Holds (Offered (given ++ a ∷ []) z.view) z.parts) (sym r.3) (with_holds given a r.0 (view_is a.view r.0 r.2) (h.hold r.0 r.1)))
          (edited_has test (side_with a) s ss once m);
      each = λ v n p b.
          ⊎_elim (λ (r : Brings given v n p). let x = h.each v n p r in let s = kept x.0 x.1 in (s.0, s.1, s.2 ∙ x.2))
          (λ (r : ByLast a v n p). let x = place_has test ss i e in let s = kept x.0 x.1 in (s.0, s.1, s.2 ∙ (view_is a.view x.0 x.2 ∙ r.view)))
          (brings_split given a v n p b);
      differ = views_edited a ss h.differ;
    }

side_holds : (given : List Answer) (ss : List Side) (a : Answer) → NamesDiffer a.parts → SidesHold given ss → SidesHold (given ++ a ∷ []) (with_side ss a)
unfolding with_side
side_holds given ss a d h = side_holds_at given ss a (place_where (is_side_of a.view) ss) refl d h

answer_sides : (x : Exchange) (a : Answer) → (with_answer x a).sides ≡ with_side x.sides a
unfolding with_answer
answer_sides x a = refl

all_hold : (past : List Answer) (x : Exchange) (given : List Answer) → ((a : Answer) → Has a given → NamesDiffer a.parts) → SidesHold past x.sides → SidesHold (past ++ given) (all_counted x given).sides
all_hold past x [] d h = subst (λ (g : List Answer). SidesHold g x.sides) (sym (append-nil past)) h
all_hold past x (a ∷ given) d h =
    subst (λ (g : List Answer). SidesHold g (all_counted (with_answer x a) given).sides) (append_assoc past (a ∷ []) given)
    (all_hold (past ++ a ∷ []) (with_answer x a) given (λ b m. d b (inr m))
    (subst (λ (ss : List Side). SidesHold (past ++ a ∷ []) ss) (sym (answer_sides x a)) (side_holds past x.sides a (d a (inl refl)) h)))

nothing_held : (v : ViewId) (asked : Mask) → SidesHold [] (opened v asked).sides
unfolding opened
nothing_held v asked = record { hold = λ s m. absurd m; each = λ u n p b. absurd b.came; differ = tt }

-- ---- the install

source_has : (s : Side) (ss : List Side) → Has s ss → Has (source_of s) (map source_of ss)
source_has s [] h = absurd h
source_has s (t ∷ ss) (inl e) = inl (ap source_of e)
source_has s (t ∷ ss) (inr h) = inr (source_has s ss h)

part_has : (k : Kept) (ks : List Kept) → Has k ks → Has k.part (map (λ (j : Kept). j.part) ks)
part_has k [] h = absurd h
part_has k (j ∷ ks) (inl e) = inl (ap (λ (z : Kept). z.part) e)
part_has k (j ∷ ks) (inr h) = inr (part_has k ks h)

carries : (given : List Answer) (x : Exchange) → SidesHold given x.sides → CarriesLongest given (install_of x)
unfolding install_of
carries given x h = record {
  longest = λ s m p k.
      let r = has_map source_of s x.sides m in
      let inside : Has p (source_of r.0).parts = subst (λ (z : Source). Has p z.parts) r.2 k in
      let q = has_map (λ (j : Kept). j.part) p r.0.parts inside in
      let held = h.hold r.0 r.1 in
      let view : r.0.view ≡ s.view = sym (ap (λ (z : Source). z.view) r.2) in
      let here : IsLongest given r.0.view q.0.part =
      record {
        node = q.0.node;
        brought = held.from q.0 q.1;
        longest = λ n o b e. held.best q.0 q.1 (kept_of n o) b e;
      }
      in
      subst (λ (v : ViewId). IsLongest given v p) view (subst (λ (z : Part). IsLongest given r.0.view z) (sym q.2) here);
  each = λ v n p b.
      let s = h.each v n p b in
      let held = h.hold s.0 s.1 in
      let k = held.each (kept_of n p) (subst (λ (u : ViewId). Brings given u n p) (sym s.2) b) in
      record { source = source_of s.0; there = source_has s.0 x.sides s.1; view = s.2; part = k.0.part; in_source = part_has k.0 s.0.parts k.1; name = k.2 };
}

pub longest_are_carried : LongestAreCarried
longest_are_carried v asked given d = carries given (all_counted (opened v asked) given) (all_hold [] (opened v asked) given d (nothing_held v asked))
