-- What is kept of nodes that pass, and of their lists, says what the lines say of who passes together.
use Rattle.std.proofs.Common.{◌≡◌, ℕ, zero, suc, ◌+◌, ◌-◌, ◌<◌, ◌≤◌, Bool, true, false, List, [], ◌∷◌, ◌++◌, length, map, take, drop, get_or, Option, Some, None, refl, sym, ◌∙◌, ap, arith, cond}
use Rattle.std.specs.Prelude.{◌==◌, ◌&&◌, ◌||◌, not, find, is_none, if◌then◌else◌}
use Rattle.std.specs.List.{list_any, list_all}
use Rattle.std.specs.Map.{lookup}
use Rattle.std.specs.Option.{option_map}
use Rattle.std.specs.Str.{bytes_eq}
use Rattle.std.proofs.lemmas.Bool.Decides.{nat_tests}
use Rattle.std.proofs.lemmas.List.{take_rest}
use Rattle.std.proofs.lemmas.Slice.Eq.{bytes_eq-Decides}
use Rattle.rsct_packet.specs.declared.ids.Member.{Member}
use Rattle.rsct_packet.specs.declared.ids.ViewId.{ViewId}
use Rattle.rsct_packet.specs.Ids.{same_view}
use Rattle.proposal_core.specs.declared.entry.Entry.{Entry}
use Rattle.word_laws.proofs.ValueLaws.{and_parts}
use Rattle.record_lines.specs.declared.line.Line.{Line}
use Rattle.record_lines.specs.declared.line.Line.TheVariants as line
use Rattle.run_audit.specs.declared.broken.Fault.{Fault}
use Rattle.run_audit.specs.declared.broken.Rule.TheVariants as rule
use Rattle.run_audit.specs.declared.keys.PassKey.{PassKey}
use Rattle.run_audit.specs.declared.keys.StayKey.{StayKey}
use Rattle.run_audit.specs.declared.leavers.Entrant.{Entrant}
use Rattle.run_audit.specs.declared.lists.LastPut.{LastPut}
use Rattle.run_audit.specs.declared.lists.RowKey.{RowKey}
use Rattle.run_audit.specs.Based.{groups_in, with_group}
use Rattle.run_audit.specs.Keys.{view_at, pass_key, stay_key, same_view_key, same_pass_key, same_stay_key}
use Rattle.run_audit.specs.Kept.{Keep, fault_of}
use Rattle.run_audit.specs.Leavers.{fault_with, leaver_of, entrants_in, with_entrant, AreLeavers, own_groups, ArePutGroups, same_last, same_counts}
use Rattle.run_audit.specs.Lists.{is_row_key, AreRows}
use Rattle.run_audit.specs.Past.{is_at, is_list, puts_after, puts_of, view_of}
use Rattle.run_audit.specs.Table.{Leaver, all_same, groups_put, holds, leavers, no_of, or_no, parts_from, same_entry, same_lists, who_parts, with_of}
use Rattle.run_audit.proofs.BasedLaws.{all_by, all_end, all_next}
use Rattle.run_audit.proofs.FrontLaws.{lengths_tell}
use Rattle.run_audit.proofs.KeyLaws.{equal, view_key_same, view_words}
use Rattle.run_audit.proofs.ListLaws.{count_is, next_place, place_is, text_same}
use Rattle.run_audit.proofs.RequestLaws.{head_rest, not_false, not_true}

-- ---- who passed

pass_key_same : (a b : PassKey) → same_pass_key a b ≡ true → a ≡ b
pass_key_same a b e =
    let p = and_parts (same_view_key a.to b.to) (same_view_key a.from b.from) e in
    λ i. record { to = view_key_same a.to b.to p.0 i; from = view_key_same a.from b.from p.1 i }

pub none_passed : (es : List (PassKey × List Entrant)) → es ≡ [] → AreLeavers [] es
unfolding entrants_in leavers
none_passed es none q = ap (λ z. map leaver_of (entrants_in (lookup (same_pass_key q) z))) none

pub entrant_pushed : (key : PassKey) (x : Entrant) (xs ys : List Entrant) (es ms fs : List (PassKey × List Entrant)) (q : PassKey)
    → xs ≡ entrants_in (lookup (same_pass_key key) es)
    → ((q : PassKey) → same_pass_key key q ≡ false → lookup (same_pass_key q) ms ≡ lookup (same_pass_key q) es)
    → ys ≡ xs ++ x ∷ []
    → ((q : PassKey) → lookup (same_pass_key q) fs ≡ cond (same_pass_key key q) (Some ys) (lookup (same_pass_key q) ms))
    → entrants_in (lookup (same_pass_key q) fs) ≡ with_entrant (same_pass_key key q) x (entrants_in (lookup (same_pass_key q) es))
unfolding entrants_in
entrant_pushed key x xs ys es ms fs q was others more up = ap entrants_in (up q) ∙ by (same_pass_key key q) refl
  where
    by : (t : Bool) → same_pass_key key q ≡ t → entrants_in (cond t (Some ys) (lookup (same_pass_key q) ms)) ≡ with_entrant t x (entrants_in (lookup (same_pass_key q) es))
    by true e = more ∙ ap (λ z. z ++ x ∷ []) (was ∙ ap (λ z. entrants_in (lookup (same_pass_key z) es)) (pass_key_same key q e))
    by false e = ap entrants_in (others q e)

map_end : (xs : List Entrant) (x : Entrant) → map leaver_of (xs ++ x ∷ []) ≡ map leaver_of xs ++ leaver_of x ∷ []
map_end [] x = refl
map_end (y ∷ xs) x = ap (λ z. leaver_of y ∷ z) (map_end xs x)

pub first_view : (n : ℕ) (v : ViewId) (ms : List Member) (es : List (PassKey × List Entrant)) (ls : List Line) → None ≡ view_of n ls → AreLeavers ls es → AreLeavers (line.In n v ms ∷ ls) es
unfolding leavers is_at
first_view n v ms es ls none are q =
    are q ∙ by (same_view v (view_at q.to)) ∙ ap (λ o. elim (same_view v (view_at q.to) && is_at (view_at q.from) o) [ true ↦ leavers (view_at q.to) (view_at q.from) ls ++ record { node = n; no = length ls + 1 } ∷ [] | false ↦ leavers (view_at q.to) (view_at q.from) ls ]) none
  where
    by : (t : Bool) → leavers (view_at q.to) (view_at q.from) ls ≡ elim (t && false) [ true ↦ leavers (view_at q.to) (view_at q.from) ls ++ record { node = n; no = length ls + 1 } ∷ [] | false ↦ leavers (view_at q.to) (view_at q.from) ls ]
    by true = refl
    by false = refl

pub passed : (n : ℕ) (u v : ViewId) (ms : List Member) (number : ℕ) (es fs : List (PassKey × List Entrant)) (ls : List Line)
    → ((q : PassKey) → entrants_in (lookup (same_pass_key q) fs) ≡ with_entrant (same_pass_key (pass_key v u) q) (record { node = n; number = number }) (entrants_in (lookup (same_pass_key q) es)))
    → AreLeavers ls es → Some u ≡ view_of n ls → number ≡ length ls + 1 → AreLeavers (line.In n v ms ∷ ls) fs
unfolding leavers is_at
passed n u v ms number es fs ls up are at k q =
    ap (map leaver_of) (up q)
    ∙ by (same_pass_key (pass_key v u) q) (same_view v (view_at q.to) && same_view u (view_at q.from)) (λ i. view_words v (view_at q.to) i && view_words u (view_at q.from) i) (are q)
    ∙ ap (λ o. elim (same_view v (view_at q.to) && is_at (view_at q.from) o) [ true ↦ leavers (view_at q.to) (view_at q.from) ls ++ record { node = n; no = length ls + 1 } ∷ [] | false ↦ leavers (view_at q.to) (view_at q.from) ls ]) at
  where
    by : (a b : Bool) → a ≡ b → map leaver_of (entrants_in (lookup (same_pass_key q) es)) ≡ leavers (view_at q.to) (view_at q.from) ls
        → map leaver_of (with_entrant a (record { node = n; number = number }) (entrants_in (lookup (same_pass_key q) es)))
        ≡ elim b [ true ↦ leavers (view_at q.to) (view_at q.from) ls ++ record { node = n; no = length ls + 1 } ∷ [] | false ↦ leavers (view_at q.to) (view_at q.from) ls ]
    by true true e old = map_end (entrants_in (lookup (same_pass_key q) es)) (record { node = n; number = number }) ∙ (λ i. old i ++ record { node = n; no = k i } ∷ [])
    by true false e old = absurd cc
    by false true e old = absurd cc
    by false false e old = old

-- ---- groups that were put into

pub none_put : (es : List (StayKey × List (List ℕ))) → es ≡ [] → ArePutGroups [] es
unfolding groups_in own_groups
none_put es none q = ap (λ z. groups_in (lookup (same_stay_key q) z)) none

and_true : (t : Bool) → (t && true) ≡ t
and_true true = refl
and_true false = refl

and_false : (t : Bool) → (t && false) ≡ false
and_false true = refl
and_false false = refl

pub first_put : (n : ℕ) (v : ViewId) (g : List ℕ) (i : ℕ) (e : Entry) (es fs : List (StayKey × List (List ℕ))) (ls : List Line) (later : Bool) → later ≡ not (i == 0) → later ≡ false
    → ((q : StayKey) → groups_in (lookup (same_stay_key q) fs) ≡ with_group (same_stay_key (stay_key n v) q) g (groups_in (lookup (same_stay_key q) es))) → ArePutGroups ls es → ArePutGroups (line.Put n v g i e ∷ ls) fs
unfolding own_groups
first_put n v g i e es fs ls later is first up are q =
    up q
    ∙ by (same_stay_key (stay_key n v) q) ((n == q.node && same_view v (view_at q.view)) && i == 0) (ap (λ t. (n == q.node) && t) (view_words v (view_at q.view)) ∙ sym (and_true (n == q.node && same_view v (view_at q.view))) ∙ ap (λ t. (n == q.node && same_view v (view_at q.view)) && t) (sym (not_false (i == 0) (sym is ∙ first)))) (are q)
  where
    by : (a b : Bool) → a ≡ b → groups_in (lookup (same_stay_key q) es) ≡ own_groups q.node (view_at q.view) ls
        → with_group a g (groups_in (lookup (same_stay_key q) es)) ≡ elim b [ true ↦ own_groups q.node (view_at q.view) ls ++ g ∷ [] | false ↦ own_groups q.node (view_at q.view) ls ]
    by true true e old = ap (λ x. x ++ g ∷ []) old
    by true false e old = absurd cc
    by false true e old = absurd cc
    by false false e old = old

pub later_put : (n : ℕ) (v : ViewId) (g : List ℕ) (i : ℕ) (e : Entry) (es : List (StayKey × List (List ℕ))) (ls : List Line) (later : Bool) → later ≡ not (i == 0) → later ≡ true → ArePutGroups ls es → ArePutGroups (line.Put n v g i e ∷ ls) es
unfolding own_groups
later_put n v g i e es ls later is behind are q =
    are q ∙ ap (λ b. elim b [ true ↦ own_groups q.node (view_at q.view) ls ++ g ∷ [] | false ↦ own_groups q.node (view_at q.view) ls ]) (sym (ap (λ t. (n == q.node && same_view v (view_at q.view)) && t) (not_true (i == 0) (sym is ∙ behind)) ∙ and_false (n == q.node && same_view v (view_at q.view))))

-- ---- lists are the same where as much was put

one_end : (t : List ℕ → Bool) (gs : List (List ℕ)) (g : List ℕ) → list_any t (gs ++ g ∷ []) ≡ (list_any t gs || t g)
one_end t [] g = by (t g)
  where
    by : (b : Bool) → (b || false) ≡ b
    by true = refl
    by false = refl
one_end t (h ∷ gs) g = ap (λ z. t h || z) (one_end t gs g) ∙ by (t h) (list_any t gs) (t g)
  where
    by : (a b c : Bool) → (a || (b || c)) ≡ ((a || b) || c)
    by true b c = refl
    by false b c = refl

or_true : (t : Bool) → (t || true) ≡ true
or_true true = refl
or_true false = refl

grown : (t : List ℕ → Bool) (gs : List (List ℕ)) (h : List ℕ) (b : Bool) → list_any t gs ≡ true → list_any t (elim b [ true ↦ gs ++ h ∷ [] | false ↦ gs ]) ≡ true
grown t gs h true e = one_end t gs h ∙ ap (λ z. z || t h) e
grown t gs h false e = e

above_zero : (i : ℕ) → (i == 0) ≡ false → 0 < i
above_zero i e = grind (arith, nat_tests)

-- a group that the node put into is one of its groups
module _ (n : ℕ) (u : ViewId) (g : List ℕ) where
  named : (ls : List Line) → Keep rule.Place ls → 0 < length (puts_of n u g ls) → list_any (bytes_eq g) (own_groups n u ls) ≡ true
  unfolding puts_of puts_after own_groups is_list
  named [] k l = absurd (omega arith)
  named (line.Put m v h i e ∷ ls) k l = by (m == n) (same_view v u && bytes_eq h g) (i == 0) refl refl refl (named ls k.1) l
    where
      by : (a t z : Bool) → (m == n) ≡ a → (same_view v u && bytes_eq h g) ≡ t → (i == 0) ≡ z → (0 < length (puts_of n u g ls) → list_any (bytes_eq g) (own_groups n u ls) ≡ true)
          → 0 < length (if a && t then puts_of n u g ls ++ e ∷ [] else puts_of n u g ls)
          → list_any (bytes_eq g) (elim ((m == n && same_view v u) && i == 0) [ true ↦ own_groups n u ls ++ h ∷ [] | false ↦ own_groups n u ls ]) ≡ true
      by true true true x y w old l =
          let p = and_parts (same_view v u) (bytes_eq h g) y in
          let here : ((m == n && same_view v u) && i == 0) ≡ true = (λ j. (x j && p.0 j) && w j) in
          ap (λ b. list_any (bytes_eq g) (elim b [ true ↦ own_groups n u ls ++ h ∷ [] | false ↦ own_groups n u ls ])) here
          ∙ one_end (bytes_eq g) (own_groups n u ls) h
          ∙ ap (λ z. list_any (bytes_eq g) (own_groups n u ls) || z) ((bytes_eq-Decides g h).1 (sym (text_same h g p.1)))
          ∙ or_true (list_any (bytes_eq g) (own_groups n u ls))
      by true true false x y w old l =
          let at : i ≡ length (puts_of n u g ls) = place_is n m u v g h i e ls k.0 x y in
          let more = above_zero i w in
          grown (bytes_eq g) (own_groups n u ls) h ((m == n && same_view v u) && i == 0) (old (omega (arith, at, more)))
      by true false z x y w old l = grown (bytes_eq g) (own_groups n u ls) h ((m == n && same_view v u) && i == 0) (old l)
      by false t z x y w old l = grown (bytes_eq g) (own_groups n u ls) h ((m == n && same_view v u) && i == 0) (old l)
  named (_ ∷ ls) k l = named ls k.1 l

in_all : (t : List ℕ → Bool) (g : List ℕ) (gs : List (List ℕ)) → list_any (bytes_eq g) gs ≡ true → list_all t gs ≡ true → t g ≡ true
in_all t g [] e a = absurd cc
in_all t g (h ∷ gs) e a = by (bytes_eq g h) refl e (λ f. in_all t g gs f (and_parts (t h) (list_all t gs) a).1)
  where
    by : (b : Bool) → bytes_eq g h ≡ b → (b || list_any (bytes_eq g) gs) ≡ true → (list_any (bytes_eq g) gs ≡ true → t g ≡ true) → t g ≡ true
    by true x f later = ap t (text_same g h x) ∙ (and_parts (t h) (list_all t gs) a).0
    by false x f later = later f

all_of : (t : List ℕ → Bool) (gs : List (List ℕ)) → ((g : List ℕ) → t g ≡ true) → list_all t gs ≡ true
all_of t [] e = refl
all_of t (g ∷ gs) e = λ i. e g i && all_of t gs e i

-- each group of the node is one that was put into
own_of_all : (t : List ℕ → Bool) (n : ℕ) (u : ViewId) (ls : List Line) → list_all t (groups_put u ls) ≡ true → list_all t (own_groups n u ls) ≡ true
unfolding groups_put own_groups
own_of_all t n u [] a = refl
own_of_all t n u (line.Put m v g i e ∷ ls) a = by (m == n) (same_view v u) (i == 0) a (own_of_all t n u ls)
  where
    by : (b s z : Bool) → list_all t (elim s [ true ↦ g ∷ groups_put u ls | false ↦ groups_put u ls ]) ≡ true
        → (list_all t (groups_put u ls) ≡ true → list_all t (own_groups n u ls) ≡ true) → list_all t (elim ((b && s) && z) [ true ↦ own_groups n u ls ++ g ∷ [] | false ↦ own_groups n u ls ]) ≡ true
    by true true true a old = let p = and_parts (t g) (list_all t (groups_put u ls)) a in all_end t (own_groups n u ls) g ∙ (λ j. p.0 j && old p.1 j)
    by true true false a old = let p = and_parts (t g) (list_all t (groups_put u ls)) a in old p.1
    by true false z a old = old a
    by false true z a old = let p = and_parts (t g) (list_all t (groups_put u ls)) a in old p.1
    by false false z a old = old a
own_of_all t n u (_ ∷ ls) a = own_of_all t n u ls a

either : (a b : Bool) → (a ≡ true → b ≡ true) → (b ≡ true → a ≡ true) → a ≡ b
either true true f g = refl
either true false f g = sym (f refl)
either false true f g = g refl
either false false f g = refl

last_next : (o p : Option LastPut) → same_last o p ≡ (next_place o == next_place p)
unfolding same_last next_place
last_next None None = refl
last_next None (Some y) = sym (by y.place)
  where
    by : (k : ℕ) → (0 == k + 1) ≡ false
    by k = grind (arith, nat_tests)
last_next (Some x) None = sym (by x.place)
  where
    by : (k : ℕ) → (k + 1 == 0) ≡ false
    by k = grind (arith, nat_tests)
last_next (Some x) (Some y) = by x.place y.place
  where
    by : (a b : ℕ) → (a == b) ≡ (a + 1 == b + 1)
    by a b = either (a == b) (a + 1 == b + 1) (λ e. grind (arith, nat_tests)) (λ e. grind (arith, nat_tests))

same_len : (xs ys : List Entry) → all_same same_entry xs ys ≡ true → length xs ≡ length ys
unfolding all_same
same_len [] [] e = refl
same_len [] (y ∷ ys) e = absurd cc
same_len (x ∷ xs) [] e = absurd cc
same_len (x ∷ xs) (y ∷ ys) e = ap suc (same_len xs ys (and_parts (same_entry x y) (all_same same_entry xs ys) e).1)

module _ (n m : ℕ) (u : ViewId) (es : List (RowKey × LastPut)) (ls : List Line) (are : AreRows ls es) (k : Keep rule.Place ls) (h : Keep rule.Entry ls) where
  test : List ℕ → Bool
  test g = all_same same_entry (puts_of n u g ls) (puts_of m u g ls)

  len_is : (k : ℕ) (g : List ℕ) → length (puts_of k u g ls) ≡ next_place (lookup (is_row_key (record { node = k; view = u; group = g })) es)
  len_is j g = count_is (record { node = j; view = u; group = g }) ls k ∙ ap next_place (sym (are (record { node = j; view = u; group = g })))

  alike : (a b : ℕ) → a ≡ b → (a == b) ≡ true
  alike a b e = grind (arith, nat_tests)

  test_is : (g : List ℕ) → same_last (lookup (is_row_key (record { node = n; view = u; group = g })) es) (lookup (is_row_key (record { node = m; view = u; group = g })) es) ≡ test g
  unfolding test
  test_is g =
      last_next (lookup (is_row_key (record { node = n; view = u; group = g })) es) (lookup (is_row_key (record { node = m; view = u; group = g })) es)
      ∙ (λ i. sym (len_is n g) i == sym (len_is m g) i)
      ∙ either (length (puts_of n u g ls) == length (puts_of m u g ls)) (all_same same_entry (puts_of n u g ls) (puts_of m u g ls)) (λ e. lengths_tell ls k h n m u g (equal (length (puts_of n u g ls)) (length (puts_of m u g ls)) e))
      (λ e. alike (length (puts_of n u g ls)) (length (puts_of m u g ls)) (same_len (puts_of n u g ls) (puts_of m u g ls) e))

  none_is : (xs ys : List Entry) → length xs ≡ 0 → length ys ≡ 0 → all_same same_entry xs ys ≡ true
  unfolding all_same
  none_is [] [] a b = refl
  none_is [] (y ∷ ys) a b = absurd (omega arith)
  none_is (x ∷ xs) ys a b = absurd (omega arith)

  tests : list_all test (own_groups n u ls) ≡ true → list_all test (own_groups m u ls) ≡ true → (g : List ℕ) → test g ≡ true
  unfolding test
  tests a b g = by (length (puts_of n u g ls)) (length (puts_of m u g ls)) refl refl
    where
      by : (i j : ℕ) → length (puts_of n u g ls) ≡ i → length (puts_of m u g ls) ≡ j → all_same same_entry (puts_of n u g ls) (puts_of m u g ls) ≡ true
      by zero zero x y = none_is (puts_of n u g ls) (puts_of m u g ls) x y
      by (suc i) j x y = in_all test g (own_groups n u ls) (named n u g ls k (omega (arith, x))) a
      by zero (suc j) x y = in_all test g (own_groups m u ls) (named m u g ls k (omega (arith, y))) b

  lists_are : (gs hs : List (List ℕ)) → gs ≡ own_groups n u ls → hs ≡ own_groups m u ls → (same_counts es n m u gs && same_counts es n m u hs) ≡ same_lists n m u ls
  unfolding same_counts same_lists test
  lists_are gs hs a b =
      (λ i. same_counts es n m u (a i) && same_counts es n m u (b i))
      ∙ (λ i. all_by (λ g. same_last (lookup (is_row_key (record { node = n; view = u; group = g })) es) (lookup (is_row_key (record { node = m; view = u; group = g })) es)) test (own_groups n u ls) test_is i && all_by (λ g. same_last (lookup (is_row_key (record { node = n; view = u; group = g })) es) (lookup (is_row_key (record { node = m; view = u; group = g })) es)) test (own_groups m u ls) test_is i)
      ∙ either (list_all test (own_groups n u ls) && list_all test (own_groups m u ls)) (list_all test (groups_put u ls))
      (λ e. let p = and_parts (list_all test (own_groups n u ls)) (list_all test (own_groups m u ls)) e in all_of test (groups_put u ls) (tests p.0 p.1))
      (λ e. λ i. own_of_all test n u ls e i && own_of_all test m u ls e i)

-- as the code has them
pub counts_none : (es : List (RowKey × LastPut)) (n m : ℕ) (u : ViewId) (gs : List (List ℕ)) → length gs < 1 → true ≡ same_counts es n m u gs
unfolding same_counts
counts_none es n m u [] e = refl
counts_none es n m u (g ∷ gs) e = absurd (omega arith)

pub counts_next : (es : List (RowKey × LastPut)) (n m : ℕ) (u : ViewId) (gs : List (List ℕ)) (g : List ℕ) (one two : Option LastPut) (here later : Bool) → 1 ≤ length gs → g ≡ get_or gs 0 g → one ≡ lookup (is_row_key (record { node = n; view = u; group = g })) es
    → two ≡ lookup (is_row_key (record { node = m; view = u; group = g })) es → here ≡ same_last one two → later ≡ same_counts es n m u (take (length gs - 1) (drop 1 gs)) → (here && later) ≡ same_counts es n m u gs
unfolding same_counts
counts_next es n m u gs g one two here later le is a b h rest =
    all_next (λ g. same_last (lookup (is_row_key (record { node = n; view = u; group = g })) es) (lookup (is_row_key (record { node = m; view = u; group = g })) es)) gs g here later le is (h ∙ (λ i. same_last (a i) (b i))) rest

pub lists_alike : (n m : ℕ) (u : ViewId) (es : List (RowKey × LastPut)) (fs : List (StayKey × List (List ℕ))) (gs hs : List (List ℕ)) (ls : List Line) (a b : Bool) (own other : StayKey) → own ≡ stay_key n u → other ≡ stay_key m u → gs ≡ groups_in (lookup (same_stay_key own) fs) → hs ≡ groups_in (lookup (same_stay_key other) fs)
    → a ≡ same_counts es n m u gs → b ≡ same_counts es n m u hs → ArePutGroups ls fs → AreRows ls es → Keep rule.Place ls → Keep rule.Entry ls → (a && b) ≡ same_lists n m u ls
lists_alike n m u es fs gs hs ls a b own other o p first second x y put rows k h =
    (λ i. x i && y i)
    ∙ lists_are n m u es ls rows k h gs hs (first ∙ ap (λ z. groups_in (lookup (same_stay_key z) fs)) o ∙ put (stay_key n u)) (second ∙ ap (λ z. groups_in (lookup (same_stay_key z) fs)) p ∙ put (stay_key m u))

-- ---- the first whose lists differ

module _ (n : ℕ) (u : ViewId) (ls : List Line) (xs : List Entrant) where
  pub parted_none : length xs < 1 → None ≡ no_of (find (parts_from n u ls) (map leaver_of xs))
  unfolding no_of
  parted_none e = nothing xs e
    where
      nothing : (xs : List Entrant) → length xs < 1 → None ≡ no_of (find (parts_from n u ls) (map leaver_of xs))
      nothing [] e = refl
      nothing (x ∷ xs) e = absurd (omega arith)

  -- the first of them, else one of the others
  pub parted_next : (x : Entrant) (here later : Option ℕ) (same : Bool) → 1 ≤ length xs → x ≡ get_or xs 0 x → same ≡ same_lists n x.node u ls → here ≡ cond (not (x.node == n) && not same) (Some x.number) None
      → later ≡ no_of (find (parts_from n u ls) (map leaver_of (take (length xs - 1) (drop 1 xs)))) → or_no here later ≡ no_of (find (parts_from n u ls) (map leaver_of xs))
  unfolding parts_from no_of or_no
  parted_next x here later same le is lists a b =
      (λ i. or_no ((a ∙ ap (λ t. cond (not (x.node == n) && not t) (Some x.number) None) lists) i) ((b ∙ ap (λ zs. no_of (find (parts_from n u ls) (map leaver_of zs))) (take_rest xs 1)) i))
      ∙ by (not (x.node == n) && not (same_lists n x.node u ls))
      ∙ ap (λ zs. no_of (find (parts_from n u ls) (map leaver_of zs))) (sym (head_rest xs x le is))
    where
      by : (t : Bool) → or_no (cond t (Some x.number) None) (no_of (find (parts_from n u ls) (map leaver_of (drop 1 xs)))) ≡ no_of (cond t (Some (leaver_of x)) (find (parts_from n u ls) (map leaver_of (drop 1 xs))))
      by true = refl
      by false = refl

-- ---- what the table says

-- the fault, by the line that shows it
fault_at : Option ℕ → Option Fault
fault_at o = option_map fault_with o

by_parted : Option Leaver → Option Fault
by_parted w = if is_none w then None else Some (record { rule = rule.Pass; with_line = no_of w })

parted_at : (w : Option Leaver) → fault_at (no_of w) ≡ by_parted w
unfolding no_of by_parted fault_at
parted_at None = refl
parted_at (Some x) = refl

module _ (n : ℕ) (v : ViewId) (ms : List Member) (ls : List Line) where
  fault_by : (o : Option ViewId) → o ≡ view_of n ls → fault_of rule.Pass (line.In n v ms) ls ≡ (if is_none (who_parts n v o ls) then None else Some (record { rule = rule.Pass; with_line = no_of (who_parts n v o ls) }))
  unfolding holds with_of
  fault_by o at = λ i. if is_none (who_parts n v (sym at i) ls) then None else Some (record { rule = rule.Pass; with_line = no_of (who_parts n v (sym at i) ls) })

  pub from_nowhere : None ≡ view_of n ls → None ≡ fault_of rule.Pass (line.In n v ms) ls
  unfolding who_parts
  from_nowhere at = sym (fault_by None at)

  module _ (u : ViewId) (xs : List Entrant) (es : List (PassKey × List Entrant)) (o : Option ℕ) (at : Some u ≡ view_of n ls) (is : xs ≡ entrants_in (lookup (same_pass_key (pass_key v u)) es)) (are : AreLeavers ls es)
      (found : o ≡ no_of (find (parts_from n u ls) (map leaver_of xs))) where
    parts_are : o ≡ no_of (who_parts n v (Some u) ls)
    unfolding who_parts
    parts_are = found ∙ ap (λ z. no_of (find (parts_from n u ls) z)) (ap (map leaver_of) is ∙ are (pass_key v u))

    pub pass_is : option_map fault_with o ≡ fault_of rule.Pass (line.In n v ms) ls
    unfolding by_parted fault_at
    pass_is = ap fault_at parts_are ∙ (parted_at (who_parts n v (Some u) ls) ∙ sym (fault_by (Some u) at))
