-- A word cut at its first dot.
use Rattle.std.proofs.Common.{◌≡◌, ℕ, suc, ◌+◌, ◌-◌, ◌<◌, ◌≤◌, ◌==◌, nat_lt, Bool, true, false, not, List, [], ◌∷◌, length, take, drop, Option, Some, None, refl, subst, arith, cond}
use Rattle.std.specs.List.{position, position_or_len}
use Rattle.std.proofs.lemmas.Bool.Decides.{nat_tests}
use Rattle.record_lines.specs.Reading.{before_dot, after_dot, client_read}
use Rattle.value_words.specs.Words.{◌>>=◌, node_word, client_word}
use Rattle.record_lines.specs.declared.parts.ClientName.{ClientName}
use Rattle.value_words.proofs.SplitLaws.{found_place, no_place, from_place}

before_head : (t : Bool) (x n : ℕ) (xs : List ℕ) → (n < length xs → before_dot xs ≡ take n xs) → cond (not t) (1 + n) 0 < suc (length xs)
    → elim t [ true ↦ [] | false ↦ x ∷ before_dot xs ] ≡ take (cond (not t) (1 + n) 0) (x ∷ xs)
before_head true x n xs r h = refl
before_head false x n xs r h =
    let below : n < length xs = omega arith in
    let a : 1 + n ≡ suc n = omega arith in
    rw (r below, a) refl

before_place : (b : List ℕ) → position_or_len (λ x. x == 46) b < length b → before_dot b ≡ take (position_or_len (λ x. x == 46) b) b
unfolding before_dot
before_place [] h = refl
before_place (x ∷ xs) h = before_head (x == 46) x (position_or_len (λ y. y == 46) xs) xs (before_place xs) h

after_head : (t : Bool) (x n : ℕ) (xs : List ℕ) → (n < length xs → after_dot xs ≡ Some (drop (n + 1) xs)) → cond (not t) (1 + n) 0 < suc (length xs)
    → elim t [ true ↦ Some xs | false ↦ after_dot xs ] ≡ Some (drop (cond (not t) (1 + n) 0 + 1) (x ∷ xs))
after_head true x n xs r h = refl
after_head false x n xs r h =
    let below : n < length xs = omega arith in
    let b : 1 + n + 1 ≡ suc (n + 1) = omega arith in
    rw (r below, b) refl

after_place : (b : List ℕ) → position_or_len (λ x. x == 46) b < length b → after_dot b ≡ Some (drop (position_or_len (λ x. x == 46) b + 1) b)
unfolding after_dot
after_place [] h = absurd (omega arith)
after_place (x ∷ xs) h = after_head (x == 46) x (position_or_len (λ y. y == 46) xs) xs (after_place xs) h

none_head : (t : Bool) (n : ℕ) (xs : List ℕ) → (length xs ≤ n → after_dot xs ≡ None) → suc (length xs) ≤ cond (not t) (1 + n) 0
    → ◌≡◌ {A = Option (List ℕ)} (elim t [ true ↦ Some xs | false ↦ after_dot xs ]) None
none_head true n xs r h = absurd (omega arith)
none_head false n xs r h = let below : length xs ≤ n = omega arith in r below

after_none : (b : List ℕ) → length b ≤ position_or_len (λ x. x == 46) b → after_dot b ≡ None
unfolding after_dot
after_none [] h = refl
after_none (x ∷ xs) h = none_head (x == 46) (position_or_len (λ y. y == 46) xs) xs (after_none xs) h

place_below : (i : ℕ) (b : List ℕ) → position (λ x. x == 46) b ≡ Some i → (position_or_len (λ x. x == 46) b < length b) × (position_or_len (λ x. x == 46) b ≡ i)
place_below i b e =
    let p = found_place (nat_lt (position_or_len (λ x. x == 46) b) (length b)) (position_or_len (λ x. x == 46) b) i e in
    (grind (arith, nat_tests, p.0), p.1)

place_past : (b : List ℕ) → position (λ x. x == 46) b ≡ None → length b ≤ position_or_len (λ x. x == 46) b
place_past b e =
    let p = no_place (nat_lt (position_or_len (λ x. x == 46) b) (length b)) (position_or_len (λ x. x == 46) b) e in
    grind (arith, nat_tests, p)

pub before_found : (i : ℕ) (b : List ℕ) → position (λ x. x == 46) b ≡ Some i → before_dot b ≡ take i b
before_found i b e =
    let p = place_below i b e in
    subst (λ (k : ℕ). before_dot b ≡ take k b) p.1 (before_place b p.0)

pub after_found : (i : ℕ) (b : List ℕ) → position (λ x. x == 46) b ≡ Some i → after_dot b ≡ Some (take (length b - (i + 1)) (drop (i + 1) b))
after_found i b e =
    let p = place_below i b e in
    rw (from_place (i + 1) b) (subst (λ (k : ℕ). after_dot b ≡ Some (drop (k + 1) b)) p.1 (after_place b p.0))

pub after_missing : (b : List ℕ) → position (λ x. x == 46) b ≡ None → after_dot b ≡ None
after_missing b e = after_none b (place_past b e)

-- nothing is a client that has no dot
pub no_client : (w : List ℕ) → after_dot w ≡ None → client_read w ≡ None
unfolding client_read ◌>>=◌
no_client w e = by (node_word (before_dot w)) (after_dot w) e
  where
    by : (n : Option ℕ) (c : Option (List ℕ)) → c ≡ None → ◌≡◌ {A = Option ClientName} (n >>= λ x. c >>= λ y. client_word y >>= λ z. let r : ClientName = record { node = x; name = z } in Some r) None
    by n (Some c) e = absurd cc
    by None None e = refl
    by (Some x) None e = refl
