-- The next name in order is the next of the different names carried.
use Rattle.std.proofs.Common.{◌≡◌, ℕ, zero, suc, ◌+◌, ◌<◌, ◌≤◌, Bool, true, false, cond, List, [], ◌∷◌, ◌++◌, length, take, get_or, Option, Some, None, refl, sym, ap, subst, ◌∙◌, arith, inl, inr}
use Rattle.std.specs.Prelude.{◌&&◌, find, fold, slice_get}
use Rattle.std.specs.Str.{bytes_eq}
use Rattle.std.proofs.Common.{Ordering, Less, Equal, Greater}
use Rattle.std.specs.Ordering.{nat_cmp, is_lt, is_eq, ordering_reverse}
use Rattle.std.specs.Cmp.Lexicographic.{slice_cmp}
use Rattle.std.proofs.lemmas.Cmp.{nat_list_cmp_total, tied_itself}
use Rattle.std.proofs.lemmas.Map.Text.{is_eq-slice_cmp}
use Rattle.std.proofs.lemmas.Bool.{cases_lt}
use Rattle.std.proofs.lemmas.List.{take_more}
use Rattle.std.proofs.lemmas.Option.{slice_get_past, slice_get-get_or}
use Rattle.std.proofs.lemmas.Slice.Eq.{bytes_eq-Decides}
use Rattle.rsct_packet.specs.Text.{name_lt}
use Rattle.view_state.specs.declared.install.Part.{Part}
use Rattle.view_state.specs.declared.install.Source.{Source}
use Rattle.view_state.specs.Codec.{is_after}
use Rattle.view_state.specs.Bases.{with_name, names_in}
use Rattle.view_bases.specs.Names.{is_nearer, nearer, nearest_in, nearest_among}

-- ---- the order of names

is_less : (o : Ordering) → is_lt o ≡ true → o ≡ Less
is_less Less e = refl
is_less Equal e = cc
is_less Greater e = cc

is_more : (o : Ordering) → is_lt o ≡ false → is_eq o ≡ false → o ≡ Greater
is_more Less e f = cc
is_more Equal e f = cc
is_more Greater e f = refl

lt_trans : (a b c : List ℕ) → name_lt a b ≡ true → name_lt b c ≡ true → name_lt a c ≡ true
lt_trans a b c p q =
    ap is_lt (nat_list_cmp_total.trans a b c (is_less (slice_cmp nat_cmp a b) p) (is_less (slice_cmp nat_cmp b c) q))

not_lt_itself : (a : List ℕ) → name_lt a a ≡ false
not_lt_itself a = ap is_lt (tied_itself nat_list_cmp_total a)

not_lt_back : (a b : List ℕ) → name_lt a b ≡ true → name_lt b a ≡ false
not_lt_back a b p =
    ap is_lt (nat_list_cmp_total.antisymm b a) ∙ ap (λ (o : Ordering). is_lt (ordering_reverse o)) (is_less (slice_cmp nat_cmp a b) p)

else_lt_back : (a b : List ℕ) → name_lt a b ≡ false → bytes_eq a b ≡ false → name_lt b a ≡ true
else_lt_back a b p q =
    ap is_lt (nat_list_cmp_total.antisymm b a)
    ∙ ap (λ (o : Ordering). is_lt (ordering_reverse o)) (is_more (slice_cmp nat_cmp a b) p (is_eq-slice_cmp a b ∙ q))

after_more : (last : Option (List ℕ)) (a b : List ℕ) → is_after last a ≡ true → name_lt a b ≡ true → is_after last b ≡ true
after_more None a b p q = refl
after_more (Some l) a b p q = lt_trans l a b p q

-- ---- the least name after a last one

nearer_if : (last best : Option (List ℕ)) (name : List ℕ) (t : Bool) → (is_after last name && is_nearer best name) ≡ t → nearer last best name ≡ cond t (Some name) best
nearer_if last best name t e = ap (λ (b : Bool). elim b as (λ c. Option (List ℕ)) [ true ↦ Some name | false ↦ best ]) e ∙ same t
  where
    same : (t : Bool) → elim t as (λ c. Option (List ℕ)) [ true ↦ Some name | false ↦ best ] ≡ cond t (Some name) best
    same true = refl
    same false = refl

nearer_taken : (last best : Option (List ℕ)) (name : List ℕ) → is_after last name ≡ true → is_nearer best name ≡ true → nearer last best name ≡ Some name
nearer_taken last best name a b = nearer_if last best name true (ap (λ (t : Bool). t && is_nearer best name) a ∙ b)

nearer_left : (last best : Option (List ℕ)) (name : List ℕ) → is_after last name ≡ false → nearer last best name ≡ best
nearer_left last best name a = nearer_if last best name false (ap (λ (t : Bool). t && is_nearer best name) a)

no_and : (t u : Bool) → u ≡ false → (t && u) ≡ false
no_and true u e = e
no_and false u e = refl

nearer_kept : (last best : Option (List ℕ)) (name : List ℕ) → is_nearer best name ≡ false → nearer last best name ≡ best
nearer_kept last best name b = nearer_if last best name false (no_and (is_after last name) (is_nearer best name) b)

found_with_name : (last : Option (List ℕ)) (ns : List (List ℕ)) (p : Part) → find (is_after last) (with_name ns p) ≡ nearer last (find (is_after last) ns) p.name
unfolding with_name
found_with_name last [] p = by (is_after last p.name) refl
  where
    by : (a : Bool) → is_after last p.name ≡ a → cond (is_after last p.name) (Some p.name) None ≡ nearer last None p.name
    by true ha = rw ha (sym (nearer_taken last None p.name ha refl))
    by false ha = rw ha (sym (nearer_left last None p.name ha))
found_with_name last (n ∷ ns) p =
    by (name_lt p.name n) (bytes_eq p.name n) (is_after last p.name) (is_after last n) refl refl refl refl (found_with_name last ns p)
  where
    by : (l e a b : Bool) → name_lt p.name n ≡ l → bytes_eq p.name n ≡ e → is_after last p.name ≡ a → is_after last n ≡ b → find (is_after last) (with_name ns p) ≡ nearer last (find (is_after last) ns) p.name → find (is_after last) (elim l [ true ↦ p.name ∷ n ∷ ns | false ↦ elim e [ true ↦ n ∷ ns | false ↦ n ∷ with_name ns p ] ]) ≡ nearer last (cond b (Some n) (find (is_after last) ns)) p.name
    by true e true true hl he ha hb ih = rw ha (sym (nearer_taken last (Some n) p.name ha hl))
    by true e true false hl he ha hb ih = let t = after_more last p.name n ha hl in cc
    by true e false true hl he ha hb ih = rw (ha, hb) (sym (nearer_left last (Some n) p.name ha))
    by true e false false hl he ha hb ih = rw (ha, hb) (sym (nearer_left last (find (is_after last) ns) p.name ha))
    by false true a true hl he ha hb ih = rw hb (sym (nearer_kept last (Some n) p.name hl))
    by false true a false hl he ha hb ih =
        let f : is_after last p.name ≡ false = ap (is_after last) ((bytes_eq-Decides p.name n).0 he) ∙ hb in
        rw hb (sym (nearer_left last (find (is_after last) ns) p.name f))
    by false false a true hl he ha hb ih = rw hb (sym (nearer_kept last (Some n) p.name hl))
    by false false a false hl he ha hb ih = rw hb ih

found_with_names : (last : Option (List ℕ)) (ns : List (List ℕ)) (ps : List Part) → find (is_after last) (fold with_name ns ps) ≡ nearest_in last (find (is_after last) ns) ps
found_with_names last ns [] = refl
found_with_names last ns (p ∷ ps) =
    found_with_names last (with_name ns p) ps
    ∙ ap (λ (b : Option (List ℕ)). nearest_in last b ps) (found_with_name last ns p)

found_with_sources : (last : Option (List ℕ)) (ns : List (List ℕ)) (ss : List Source) → find (is_after last) (fold (λ ms s. fold with_name ms s.parts) ns ss) ≡ nearest_among last (find (is_after last) ns) ss
found_with_sources last ns [] = refl
found_with_sources last ns (s ∷ ss) =
    found_with_sources last (fold with_name ns s.parts) ss
    ∙ ap (λ (b : Option (List ℕ)). nearest_among last b ss) (found_with_names last ns s.parts)

pub nearest_is_found : (last : Option (List ℕ)) (ss : List Source) → nearest_among last None ss ≡ find (is_after last) (names_in ss)
unfolding names_in
nearest_is_found last ss = sym (found_with_sources last [] ss)

nearest_in-append : (last best : Option (List ℕ)) (ps qs : List Part) → nearest_in last best (ps ++ qs) ≡ nearest_in last (nearest_in last best ps) qs
nearest_in-append last best [] qs = refl
nearest_in-append last best (p ∷ ps) qs = nearest_in-append last (nearer last best p.name) ps qs

nearest_among-append : (last best : Option (List ℕ)) (ss ts : List Source) → nearest_among last best (ss ++ ts) ≡ nearest_among last (nearest_among last best ss) ts
nearest_among-append last best [] ts = refl
nearest_among-append last best (s ∷ ss) ts = nearest_among-append last (nearest_in last best s.parts) ss ts

pub nearest_one_more : (last best : Option (List ℕ)) (ps : List Part) (k : ℕ) (p : Part) → k < length ps → p ≡ get_or ps k p → nearest_in last best (take (k + 1) ps) ≡ nearer last (nearest_in last best (take k ps)) p.name
nearest_one_more last best ps k p lt is = rw (take_more ps k p lt, ← is, nearest_in-append) refl

pub nearest_source_more : (last best : Option (List ℕ)) (ss : List Source) (k : ℕ) (s : Source) → k < length ss → s ≡ get_or ss k s → nearest_among last best (take (k + 1) ss) ≡ nearest_in last (nearest_among last best (take k ss)) s.parts
nearest_source_more last best ss k s lt is = rw (take_more ss k s lt, ← is, nearest_among-append) refl

-- ---- the names ascend

abbrev Ascend : Option (List ℕ) → List (List ℕ) → Type 0
Ascend last [] = Unit {0}
Ascend last (n ∷ ns) = (is_after last n ≡ true) × Ascend (Some n) ns

with_name_ascend : (last : Option (List ℕ)) (ns : List (List ℕ)) (p : Part) → Ascend last ns → is_after last p.name ≡ true → Ascend last (with_name ns p)
unfolding with_name
with_name_ascend last [] p a h = (h, tt)
with_name_ascend last (n ∷ ns) p a h = by (name_lt p.name n) (bytes_eq p.name n) refl refl (with_name_ascend (Some n) ns p a.1)
  where
    by : (l e : Bool) → name_lt p.name n ≡ l → bytes_eq p.name n ≡ e → (name_lt n p.name ≡ true → Ascend (Some n) (with_name ns p)) → Ascend last (elim l [ true ↦ p.name ∷ n ∷ ns | false ↦ elim e [ true ↦ n ∷ ns | false ↦ n ∷ with_name ns p ] ])
    by true e hl he more = (h, (hl, a.1))
    by false true hl he more = a
    by false false hl he more = (a.0, more (else_lt_back p.name n hl he))

with_names_ascend : (ns : List (List ℕ)) (ps : List Part) → Ascend None ns → Ascend None (fold with_name ns ps)
with_names_ascend ns [] a = a
with_names_ascend ns (p ∷ ps) a = with_names_ascend (with_name ns p) ps (with_name_ascend None ns p a refl)

with_sources_ascend : (ns : List (List ℕ)) (ss : List Source) → Ascend None ns → Ascend None (fold (λ ms s. fold with_name ms s.parts) ns ss)
with_sources_ascend ns [] a = a
with_sources_ascend ns (s ∷ ss) a = with_sources_ascend (fold with_name ns s.parts) ss (with_names_ascend ns s.parts a)

names_ascend : (ss : List Source) → Ascend None (names_in ss)
unfolding names_in
names_ascend ss = with_sources_ascend [] ss tt

-- ---- the one after the k-th is the next

-- the name before the k-th
abbrev pub name_before : List (List ℕ) → ℕ → Option (List ℕ)
name_before ns zero = None
name_before ns (suc k) = slice_get ns k

first_is : (n : List ℕ) (ns : List (List ℕ)) → Ascend (Some n) ns → find (is_after (Some n)) ns ≡ slice_get ns 0
first_is n [] a = refl
first_is n (m ∷ ms) a = rw a.0 refl

is_below : (n x : List ℕ) (ns : List (List ℕ)) (k : ℕ) → Ascend (Some n) ns → slice_get ns k ≡ Some x → name_lt n x ≡ true
is_below n x [] k a e = cc
is_below n x (m ∷ ms) zero a e = let s : m ≡ x = cc in rw (← s) a.0
is_below n x (m ∷ ms) (suc k) a e = lt_trans n m x a.0 (is_below m x ms k a.1 e)

after_is_next : (last : Option (List ℕ)) (ns : List (List ℕ)) (k : ℕ) (x : List ℕ) → Ascend last ns → slice_get ns k ≡ Some x → find (is_after (Some x)) ns ≡ slice_get ns (suc k)
after_is_next last [] k x a e = cc
after_is_next last (n ∷ ns) zero x a e =
    let s : n ≡ x = cc in
    subst (λ (y : List ℕ). find (is_after (Some y)) (n ∷ ns) ≡ slice_get ns 0) s (rw (not_lt_itself n) (first_is n ns a.1))
after_is_next last (n ∷ ns) (suc k) x a e = rw (not_lt_back n x (is_below n x ns k a.1 e)) (after_is_next (Some n) ns k x a.1 e)

first_of_all : (ns : List (List ℕ)) → find (is_after None) ns ≡ slice_get ns 0
first_of_all [] = refl
first_of_all (n ∷ ns) = refl

not_past : (ns : List (List ℕ)) (k : ℕ) → k < length ns → slice_get ns k ≡ None → ⊥
not_past ns k lt e = let s = slice_get-get_or ns k [] lt in cc

next_of : (ns : List (List ℕ)) (k : ℕ) → Ascend None ns → k ≤ length ns → find (is_after (name_before ns k)) ns ≡ slice_get ns k
next_of ns zero a le = first_of_all ns
next_of ns (suc k) a le = by (slice_get ns k) refl
  where
    by : (o : Option (List ℕ)) → slice_get ns k ≡ o → find (is_after (slice_get ns k)) ns ≡ slice_get ns (suc k)
    by (Some x) e = rw e (after_is_next None ns k x a e)
    by None e = absurd (not_past ns k (omega arith) e)

-- the least name after the one before the k-th is the k-th
pub next_is : (ss : List Source) (last : Option (List ℕ)) (k : ℕ) → last ≡ name_before (names_in ss) k → k ≤ length (names_in ss) → find (is_after last) (names_in ss) ≡ slice_get (names_in ss) k
next_is ss last k e le =
    ap (λ (o : Option (List ℕ)). find (is_after o) (names_in ss)) e ∙ next_of (names_in ss) k (names_ascend ss) le

pub before_more : (ns : List (List ℕ)) (k : ℕ) → name_before ns (k + 1) ≡ slice_get ns k
before_more ns k = let e : k + 1 ≡ suc k = omega arith in ap (name_before ns) e
