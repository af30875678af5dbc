-- Pairs that are apart: what stands at a place is the pair of its nodes, and they stay apart.
use Rattle.std.proofs.Common.{◌≡◌, ℕ, zero, suc, Bool, true, false, cond, ◌==◌, ◌&&◌, List, [], ◌∷◌, ◌++◌, get_or, set, Some, None, refl, sym, ap, ◌∙◌, eqb-true, eq-eqb}
use Rattle.std.specs.Prelude.{find, slice_get}
use Rattle.std.specs.Option.{option_map}
use Rattle.std.proofs.lemmas.Bool.{and_parts}
use Rattle.rsct_packet.specs.Search.{place_where}
use Rattle.rsct_packet.proofs.SearchLaws.{missing_at_place}
use Rattle.relay_packets.specs.declared.pairs.Pair.{Pair}
use Rattle.relay_packets.specs.Datagrams.{is_from, is_right, AreApart}

-- ---- the two nodes of a pair

from_is : (a b : ℕ) (p : Pair) → is_from a b p ≡ true → p.from ≡ a
from_is a b p e = eqb-true _ _ (and_parts _ _ e).0

to_is : (a b : ℕ) (p : Pair) → is_from a b p ≡ true → p.to ≡ b
to_is a b p e = eqb-true _ _ (and_parts _ _ e).1

same_test : (a b c d : ℕ) (p : Pair) → a ≡ c → b ≡ d → is_from a b p ≡ is_from c d p
same_test a b c d p e f = ap (λ z. is_from z b p) e ∙ ap (λ z. is_from c z p) f

same_find : (a b c d : ℕ) (ps : List Pair) → a ≡ c → b ≡ d → find (is_from a b) ps ≡ find (is_from c d) ps
same_find a b c d ps e f = ap (λ z. find (is_from z b) ps) e ∙ ap (λ z. find (is_from c z) ps) f

-- ---- what stands at a place

not_found : (a b : ℕ) (ps : List Pair) (i : ℕ) → find (is_from a b) ps ≡ None → is_right a b (slice_get ps i) ≡ true → ⊥
not_found a b [] i n e = cc
not_found a b (p ∷ ps) zero n e = by (is_from a b p) e n
  where
    by : (t : Bool) → t ≡ true → cond t (Some p) (find (is_from a b) ps) ≡ None → ⊥
    by true e n = cc
    by false e n = cc
not_found a b (p ∷ ps) (suc i) n e = by (is_from a b p) (λ h. not_found a b ps i h e) n
  where
    by : (t : Bool) → (find (is_from a b) ps ≡ None → ⊥) → cond t (Some p) (find (is_from a b) ps) ≡ None → ⊥
    by true rest n = cc
    by false rest n = rest n

right_at : (a b : ℕ) (ps : List Pair) (i : ℕ) → AreApart ps → is_right a b (slice_get ps i) ≡ true → place_where (is_from a b) ps ≡ Some i
right_at a b [] i h e = absurd cc
right_at a b (p ∷ ps) zero h e = ap (λ t. cond t (Some 0) (option_map suc (place_where (is_from a b) ps))) e
right_at a b (p ∷ ps) (suc i) h e = by (is_from a b p) refl (right_at a b ps i h.1 e)
  where
    by : (t : Bool) → is_from a b p ≡ t → place_where (is_from a b) ps ≡ Some i → cond t (Some 0) (option_map suc (place_where (is_from a b) ps)) ≡ Some (suc i)
    by true q rest = absurd (not_found a b ps i (same_find a b p.from p.to ps (sym (from_is a b p q)) (sym (to_is a b p q)) ∙ h.0) e)
    by false q rest = ap (option_map suc) rest

pub right_place : (ps : List Pair) (a b i : ℕ) (r : Bool) → AreApart ps → r ≡ is_right a b (slice_get ps i) → r ≡ true → place_where (is_from a b) ps ≡ Some i
right_place ps a b i r h e t = right_at a b ps i h (sym e ∙ t)

-- ---- a pair in place of one of the same nodes

none_set : (a b : ℕ) (ps : List Pair) (i : ℕ) (q d : Pair) → q.from ≡ (get_or ps i d).from → q.to ≡ (get_or ps i d).to → find (is_from a b) ps ≡ None → find (is_from a b) (set ps i q) ≡ None
none_set a b [] i q d e f n = n
none_set a b (p ∷ ps) zero q d e f n = ap (λ t. cond t (Some q) (find (is_from a b) ps)) (ap (λ z. z == a && q.to == b) e ∙ ap (λ z. p.from == a && z == b) f) ∙ by (is_from a b p) n
  where
    by : (t : Bool) → cond t (Some p) (find (is_from a b) ps) ≡ None → cond t (Some q) (find (is_from a b) ps) ≡ None
    by true n = absurd cc
    by false n = n
none_set a b (p ∷ ps) (suc i) q d e f n = by (is_from a b p) (none_set a b ps i q d e f) n
  where
    by : (t : Bool) → (find (is_from a b) ps ≡ None → find (is_from a b) (set ps i q) ≡ None) → cond t (Some p) (find (is_from a b) ps) ≡ None → cond t (Some p) (find (is_from a b) (set ps i q)) ≡ None
    by true rest n = absurd cc
    by false rest n = rest n

set_apart : (ps : List Pair) (i : ℕ) (q d : Pair) → q.from ≡ (get_or ps i d).from → q.to ≡ (get_or ps i d).to → AreApart ps → AreApart (set ps i q)
set_apart [] i q d e f h = h
set_apart (p ∷ ps) zero q d e f h = (same_find q.from q.to p.from p.to ps e f ∙ h.0, h.1)
set_apart (p ∷ ps) (suc i) q d e f h = (none_set p.from p.to ps i q d e f h.0, set_apart ps i q d e f h.1)

pub apart_set : (ps : List Pair) (i : ℕ) (p q : Pair) → AreApart ps → p ≡ get_or ps i p → q.from ≡ p.from → q.to ≡ p.to → AreApart (set ps i q)
apart_set ps i p q h read e f = set_apart ps i q p (e ∙ ap (λ (z : Pair). z.from) read) (f ∙ ap (λ (z : Pair). z.to) read) h

-- ---- a pair behind them

none_behind : (a b : ℕ) (ps : List Pair) (q : Pair) → is_from a b q ≡ false → find (is_from a b) ps ≡ None → find (is_from a b) (ps ++ q ∷ []) ≡ None
none_behind a b [] q e n = ap (λ t. cond t (Some q) None) e
none_behind a b (p ∷ ps) q e n = by (is_from a b p) (none_behind a b ps q e) n
  where
    by : (t : Bool) → (find (is_from a b) ps ≡ None → find (is_from a b) (ps ++ q ∷ []) ≡ None) → cond t (Some p) (find (is_from a b) ps) ≡ None → cond t (Some p) (find (is_from a b) (ps ++ q ∷ [])) ≡ None
    by true rest n = absurd cc
    by false rest n = rest n

other_ends : (p q : Pair) (a b : ℕ) → q.from ≡ a → q.to ≡ b → is_from a b p ≡ false → is_from p.from p.to q ≡ false
other_ends p q a b e f n = by (is_from p.from p.to q) refl
  where
    by : (t : Bool) → is_from p.from p.to q ≡ t → t ≡ false
    by false k = refl
    by true k =
        let from : p.from ≡ a = sym (from_is p.from p.to q k) ∙ e in
        let to : p.to ≡ b = sym (to_is p.from p.to q k) ∙ f in
        let self : is_from a b p ≡ is_from p.from p.to p = same_test a b p.from p.to p (sym from) (sym to) in
        let yes : is_from p.from p.to p ≡ true = ap (λ t. t && p.to == p.to) (eq-eqb p.from p.from refl) ∙ eq-eqb p.to p.to refl in absurd cc

behind_apart : (ps : List Pair) (a b : ℕ) (q : Pair) → q.from ≡ a → q.to ≡ b → find (is_from a b) ps ≡ None → AreApart ps → AreApart (ps ++ q ∷ [])
behind_apart [] a b q e f n h = (refl, tt)
behind_apart (p ∷ ps) a b q e f n h = by (is_from a b p) refl (λ m. behind_apart ps a b q e f m h.1) n
  where
    by : (t : Bool) → is_from a b p ≡ t → (find (is_from a b) ps ≡ None → AreApart (ps ++ q ∷ [])) → cond t (Some p) (find (is_from a b) ps) ≡ None → AreApart (p ∷ ps ++ q ∷ [])
    by true k rest n = absurd cc
    by false k rest n = (none_behind p.from p.to ps q (other_ends p q a b e f k) h.0, rest n)

pub apart_push : (ps : List Pair) (a b : ℕ) (q : Pair) → AreApart ps → None ≡ place_where (is_from a b) ps → q.from ≡ a → q.to ≡ b → AreApart (ps ++ q ∷ [])
apart_push ps a b q h none e f = behind_apart ps a b q e f (missing_at_place (is_from a b) ps (sym none)) h
