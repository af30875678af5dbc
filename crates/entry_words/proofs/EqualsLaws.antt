-- A word cut at its first `=`.
use Rattle.std.proofs.Common.{◌≡◌, ℕ, suc, ◌+◌, ◌-◌, ◌<◌, ◌≤◌, ◌==◌, nat_lt, Bool, true, false, not, List, [], ◌∷◌, length, take, drop, Option, Some, None, refl, subst, arith, cond}
use Rattle.std.specs.List.{position, position_or_len}
use Rattle.std.proofs.lemmas.Bool.Decides.{nat_tests}
use Rattle.entry_words.specs.Words.{before_equals, after_equals}
use Rattle.value_words.proofs.SplitLaws.{found_place, no_place, from_place}

before_head : (t : Bool) (x n : ℕ) (xs : List ℕ) → (n < length xs → before_equals xs ≡ take n xs) → cond (not t) (1 + n) 0 < suc (length xs)
    → elim t [ true ↦ [] | false ↦ x ∷ before_equals xs ] ≡ take (cond (not t) (1 + n) 0) (x ∷ xs)
before_head true x n xs r h = refl
before_head false x n xs r h =
    let below : n < length xs = omega arith in
    let a : 1 + n ≡ suc n = omega arith in
    rw (r below, a) refl

before_place : (b : List ℕ) → position_or_len (λ x. x == 61) b < length b → before_equals b ≡ take (position_or_len (λ x. x == 61) b) b
unfolding before_equals
before_place [] h = refl
before_place (x ∷ xs) h = before_head (x == 61) x (position_or_len (λ y. y == 61) xs) xs (before_place xs) h

all_head : (t : Bool) (x n : ℕ) (xs : List ℕ) → (length xs ≤ n → before_equals xs ≡ xs) → suc (length xs) ≤ cond (not t) (1 + n) 0
    → elim t [ true ↦ [] | false ↦ x ∷ before_equals xs ] ≡ x ∷ xs
all_head true x n xs r h = absurd (omega arith)
all_head false x n xs r h = let below : length xs ≤ n = omega arith in rw (r below) refl

before_all : (b : List ℕ) → length b ≤ position_or_len (λ x. x == 61) b → before_equals b ≡ b
unfolding before_equals
before_all [] h = refl
before_all (x ∷ xs) h = all_head (x == 61) x (position_or_len (λ y. y == 61) xs) xs (before_all xs) h

after_head : (t : Bool) (x n : ℕ) (xs : List ℕ) → (n < length xs → after_equals xs ≡ Some (drop (n + 1) xs)) → cond (not t) (1 + n) 0 < suc (length xs)
    → elim t [ true ↦ Some xs | false ↦ after_equals xs ] ≡ Some (drop (cond (not t) (1 + n) 0 + 1) (x ∷ xs))
after_head true x n xs r h = refl
after_head false x n xs r h =
    let below : n < length xs = omega arith in
    let b : 1 + n + 1 ≡ suc (n + 1) = omega arith in
    rw (r below, b) refl

after_place : (b : List ℕ) → position_or_len (λ x. x == 61) b < length b → after_equals b ≡ Some (drop (position_or_len (λ x. x == 61) b + 1) b)
unfolding after_equals
after_place [] h = absurd (omega arith)
after_place (x ∷ xs) h = after_head (x == 61) x (position_or_len (λ y. y == 61) xs) xs (after_place xs) h

none_head : (t : Bool) (n : ℕ) (xs : List ℕ) → (length xs ≤ n → after_equals xs ≡ None) → suc (length xs) ≤ cond (not t) (1 + n) 0
    → ◌≡◌ {A = Option (List ℕ)} (elim t [ true ↦ Some xs | false ↦ after_equals xs ]) None
none_head true n xs r h = absurd (omega arith)
none_head false n xs r h = let below : length xs ≤ n = omega arith in r below

after_none : (b : List ℕ) → length b ≤ position_or_len (λ x. x == 61) b → after_equals b ≡ None
unfolding after_equals
after_none [] h = refl
after_none (x ∷ xs) h = none_head (x == 61) (position_or_len (λ y. y == 61) xs) xs (after_none xs) h

place_below : (i : ℕ) (b : List ℕ) → position (λ x. x == 61) b ≡ Some i → (position_or_len (λ x. x == 61) b < length b) × (position_or_len (λ x. x == 61) b ≡ i)
place_below i b e =
    let p = found_place (nat_lt (position_or_len (λ x. x == 61) b) (length b)) (position_or_len (λ x. x == 61) b) i e in
    (grind (arith, nat_tests, p.0), p.1)

place_past : (b : List ℕ) → position (λ x. x == 61) b ≡ None → length b ≤ position_or_len (λ x. x == 61) b
place_past b e =
    let p = no_place (nat_lt (position_or_len (λ x. x == 61) b) (length b)) (position_or_len (λ x. x == 61) b) e in
    grind (arith, nat_tests, p)

pub before_found : (i : ℕ) (b : List ℕ) → position (λ x. x == 61) b ≡ Some i → before_equals b ≡ take i b
before_found i b e =
    let p = place_below i b e in
    subst (λ (k : ℕ). before_equals b ≡ take k b) p.1 (before_place b p.0)

pub before_missing : (b : List ℕ) → position (λ x. x == 61) b ≡ None → before_equals b ≡ b
before_missing b e = before_all b (place_past b e)

pub after_found : (i : ℕ) (b : List ℕ) → position (λ x. x == 61) b ≡ Some i → after_equals b ≡ Some (take (length b - (i + 1)) (drop (i + 1) b))
after_found i b e =
    let p = place_below i b e in
    rw (from_place (i + 1) b) (subst (λ (k : ℕ). after_equals b ≡ Some (drop (k + 1) b)) p.1 (after_place b p.0))

pub after_missing : (b : List ℕ) → position (λ x. x == 61) b ≡ None → after_equals b ≡ None
after_missing b e = after_none b (place_past b e)
