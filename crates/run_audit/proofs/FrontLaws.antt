-- The lists of nodes are fronts of the view's list.
use Rattle.std.proofs.Common.{◌≡◌, ℕ, ◌<◌, ◌≤◌, Bool, true, false, List, [], ◌∷◌, ◌++◌, length, Option, Some, None, refl, sym, ◌∙◌, ap, subst, arith}
use Rattle.std.specs.Prelude.{◌==◌, ◌&&◌, slice_get, if◌then◌else◌}
use Rattle.std.specs.Str.{bytes_eq}
use Rattle.std.proofs.lemmas.Slice.Eq.{bytes_eq-Decides}
use Rattle.rsct_packet.specs.declared.ids.ViewId.{ViewId}
use Rattle.proposal_core.specs.declared.entry.Entry.{Entry}
use Rattle.entry_words.specs.Wording.{entry_text}
use Rattle.word_laws.proofs.ValueLaws.{and_parts}
use Rattle.record_lines.specs.declared.line.Line.{Line}
use Rattle.record_lines.specs.declared.line.Line.TheVariants as line
use Rattle.run_audit.specs.declared.broken.Rule.TheVariants as rule
use Rattle.run_audit.specs.Past.{view_of, is_at, is_list, puts_of, puts_after, list_of, list_after}
use Rattle.run_audit.specs.Table.{holds, same_entry, all_same, if_some}
use Rattle.run_audit.specs.Fronts.{is_front, AreFronts, LengthsTell}
use Rattle.run_audit.proofs.KeyLaws.{equal}
use Rattle.run_audit.proofs.ListLaws.{list_same, text_same}
use Rattle.run_audit.proofs.PlaceLaws.{apart, get_in}

-- ---- tests

text_self : (b : List ℕ) → bytes_eq b b ≡ true
text_self b = (bytes_eq-Decides b b).1 refl

entry_self : (e : Entry) → same_entry e e ≡ true
unfolding same_entry
entry_self e = text_self (entry_text e)

entry_same : (e f : Entry) → same_entry e f ≡ true → entry_text e ≡ entry_text f
unfolding same_entry
entry_same e f k = text_same (entry_text e) (entry_text f) k

same_entries : (e f : Entry) → entry_text e ≡ entry_text f → same_entry e f ≡ true
unfolding same_entry
same_entries e f k = subst (λ z. bytes_eq (entry_text e) z ≡ true) k (text_self (entry_text e))

-- ---- fronts

join_true : (a b : Bool) → a ≡ true → b ≡ true → (a && b) ≡ true
join_true a b e f = rw (e, f) refl

front_grows : (xs ys : List Entry) (z : Entry) → is_front xs ys ≡ true → is_front xs (ys ++ z ∷ []) ≡ true
front_grows [] ys z h = refl
front_grows (x ∷ xs) [] z h = absurd cc
front_grows (x ∷ xs) (y ∷ ys) z h = let p = and_parts (same_entry x y) (is_front xs ys) h in join_true (same_entry x y) (is_front xs (ys ++ z ∷ [])) p.0 (front_grows xs ys z p.1)

front_takes : (xs ys : List Entry) (x y : Entry) → is_front xs ys ≡ true → slice_get ys (length xs) ≡ Some y → same_entry x y ≡ true → is_front (xs ++ x ∷ []) ys ≡ true
front_takes [] [] x y h e s = absurd cc
front_takes [] (z ∷ ys) x y h e s = let same : z ≡ y = cc in join_true (same_entry x z) true (subst (λ w. same_entry x w ≡ true) (sym same) s) refl
front_takes (w ∷ xs) [] x y h e s = absurd cc
front_takes (w ∷ xs) (z ∷ ys) x y h e s = let p = and_parts (same_entry w z) (is_front xs ys) h in join_true (same_entry w z) (is_front (xs ++ x ∷ []) ys) p.0 (front_takes xs ys x y p.1 e s)

front_both : (xs ys : List Entry) (x : Entry) → is_front xs ys ≡ true → length xs ≡ length ys → is_front (xs ++ x ∷ []) (ys ++ x ∷ []) ≡ true
front_both [] [] x h e = join_true (same_entry x x) true (entry_self x) refl
front_both [] (y ∷ ys) x h e = absurd (omega arith)
front_both (w ∷ xs) [] x h e = absurd cc
front_both (w ∷ xs) (y ∷ ys) x h e = let p = and_parts (same_entry w y) (is_front xs ys) h in join_true (same_entry w y) (is_front (xs ++ x ∷ []) (ys ++ x ∷ [])) p.0 (front_both xs ys x p.1 (omega arith))

front_len : (xs ys : List Entry) → is_front xs ys ≡ true → length xs ≤ length ys
front_len [] ys h = omega arith
front_len (x ∷ xs) [] h = absurd cc
front_len (x ∷ xs) (y ∷ ys) h = let p = and_parts (same_entry x y) (is_front xs ys) h in let l = front_len xs ys p.1 in omega (arith, l)

-- ---- one more put

some_test : (o : Option Entry) (e y : Entry) → if_some o (same_entry e) ≡ true → o ≡ Some y → same_entry e y ≡ true
unfolding if_some
some_test None e y h k = absurd cc
some_test (Some x) e y h k = let same : x ≡ y = cc in subst (λ z. same_entry e z ≡ true) same h

module _ (n : ℕ) (v : ViewId) (g : List ℕ) (m : ℕ) (u : ViewId) (h : List ℕ) (i : ℕ) (e : Entry) (ls : List Line) where
  placed : holds rule.Place (line.Put m u h i e) ls ≡ true → (m == n) ≡ true → is_list v g u h ≡ true → i ≡ length (puts_of n v g ls)
  unfolding holds
  placed k a t =
      let p = and_parts (is_at u (view_of m ls)) (i == length (puts_of m u h ls)) k in
      let s = list_same v u g h t in
      let same : m ≡ n = equal m n a in
      equal i (length (puts_of m u h ls)) p.1 ∙ (λ z. length (puts_of (same z) (s.0 z) (s.1 z) ls))

  entered : holds rule.Entry (line.Put m u h i e) ls ≡ true → is_list v g u h ≡ true → if_some (slice_get (list_of v g ls) i) (same_entry e) ≡ true
  unfolding holds
  entered k t = let s = list_same v u g h t in subst (λ (z : ViewId × List ℕ). if_some (slice_get (list_of z.0 z.1 ls) i) (same_entry e) ≡ true) (λ j. (s.0 j, s.1 j)) k

  more : holds rule.Place (line.Put m u h i e) ls ≡ true → holds rule.Entry (line.Put m u h i e) ls ≡ true → is_front (puts_of n v g ls) (list_of v g ls) ≡ true → (t a b : Bool) → is_list v g u h ≡ t → (m == n) ≡ a → (i == length (list_of v g ls)) ≡ b
      → is_front (if a && t then puts_of n v g ls ++ e ∷ [] else puts_of n v g ls) (if t && b then list_of v g ls ++ e ∷ [] else list_of v g ls) ≡ true
  more place entry old false true b x y z = old
  more place entry old false false b x y z = old
  more place entry old true true true x y z =
      let at : i ≡ length (puts_of n v g ls) = placed place y x in
      let end : i ≡ length (list_of v g ls) = equal i (length (list_of v g ls)) z in
      front_both (puts_of n v g ls) (list_of v g ls) e old (sym at ∙ end)
  more place entry old true true false x y z =
      let at : i ≡ length (puts_of n v g ls) = placed place y x in
      let l = front_len (puts_of n v g ls) (list_of v g ls) old in
      let within : i < length (list_of v g ls) = apart i (length (list_of v g ls)) z (omega (arith, at, l)) in
      let found = get_in (list_of v g ls) i within in
      front_takes (puts_of n v g ls) (list_of v g ls) e found.0 old (ap (λ k. slice_get (list_of v g ls) k) (sym at) ∙ found.1) (some_test (slice_get (list_of v g ls) i) e found.0 (entered entry x) found.1)
  more place entry old true false true x y z = front_grows (puts_of n v g ls) (list_of v g ls) e old
  more place entry old true false false x y z = old

pub fronts : AreFronts
unfolding puts_of puts_after list_of list_after
fronts [] k h n v g = refl
fronts (line.Put m u w i e ∷ ls) k h n v g = more n v g m u w i e ls k.0 h.0 (fronts ls k.1 h.1 n v g) (is_list v g u w) (m == n) (i == length (list_of v g ls)) refl refl refl
fronts (_ ∷ ls) k h n v g = fronts ls k.1 h.1 n v g

-- fronts of one list that are as long are the same
fronts_same : (xs ys zs : List Entry) → is_front xs zs ≡ true → is_front ys zs ≡ true → length xs ≡ length ys → all_same same_entry xs ys ≡ true
unfolding all_same
fronts_same [] [] zs h k e = refl
fronts_same [] (y ∷ ys) zs h k e = absurd (omega arith)
fronts_same (x ∷ xs) [] zs h k e = absurd (omega arith)
fronts_same (x ∷ xs) (y ∷ ys) [] h k e = absurd cc
fronts_same (x ∷ xs) (y ∷ ys) (z ∷ zs) h k e =
    let p = and_parts (same_entry x z) (is_front xs zs) h in
    let q = and_parts (same_entry y z) (is_front ys zs) k in
    join_true (same_entry x y) (all_same same_entry xs ys) (same_entries x y (entry_same x z p.0 ∙ sym (entry_same y z q.0))) (fronts_same xs ys zs p.1 q.1 (omega arith))

pub lengths_tell : LengthsTell
lengths_tell ls k h n m v g e = fronts_same (puts_of n v g ls) (puts_of m v g ls) (list_of v g ls) (fronts ls k h n v g) (fronts ls k h m v g) e
