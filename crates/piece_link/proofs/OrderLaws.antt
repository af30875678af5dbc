-- The order of incarnations and numbers, and of what is kept.
use Rattle.std.proofs.Common.{◌≡◌, ℕ, ◌≤◌, ◌<◌, Bool, true, false, inl, inr, refl, sym, arith}
use Rattle.std.specs.Prelude.{◌⊎◌, nat_lt, ◌==◌, ◌&&◌, ◌||◌}
use Rattle.std.proofs.lemmas.Bool.Decides.{nat_tests}
use Rattle.piece_link.specs.Joining.{is_less}

less_by : (i n j k : ℕ) (a b c : Bool) → nat_lt i j ≡ a → (i == j) ≡ b → nat_lt n k ≡ c → (a || (b && c)) ≡ true → (i < j) ⊎ ((i ≡ j) × (n < k))
less_by i n j k true b c e f g h = inl (grind (arith, nat_tests))
less_by i n j k false true true e f g h = inr (grind (arith, nat_tests), grind (arith, nat_tests))
less_by i n j k false true false e f g h = absurd cc
less_by i n j k false false c e f g h = absurd cc

pub less_true : (i n j k : ℕ) → is_less i n j k ≡ true → (i < j) ⊎ ((i ≡ j) × (n < k))
less_true i n j k h = less_by i n j k (nat_lt i j) (i == j) (nat_lt n k) refl refl refl h

more_by : (i n j k : ℕ) (a b c : Bool) → nat_lt i j ≡ a → (i == j) ≡ b → nat_lt n k ≡ c → (a || (b && c)) ≡ false → (j < i) ⊎ ((i ≡ j) × (k ≤ n))
more_by i n j k true b c e f g h = absurd cc
more_by i n j k false true true e f g h = absurd cc
more_by i n j k false true false e f g h = inr (grind (arith, nat_tests), grind (arith, nat_tests))
more_by i n j k false false c e f g h = inl (grind (arith, nat_tests))

pub less_false : (i n j k : ℕ) → is_less i n j k ≡ false → (j < i) ⊎ ((i ≡ j) × (k ≤ n))
less_false i n j k h = more_by i n j k (nat_lt i j) (i == j) (nat_lt n k) refl refl refl h

pub true_less : (i n j k : ℕ) → (i < j) ⊎ ((i ≡ j) × (n < k)) → is_less i n j k ≡ true
true_less i n j k (inl lt) = let a : nat_lt i j ≡ true = grind (arith, nat_tests) in rw a refl
true_less i n j k (inr h) =
    let a : nat_lt i j ≡ false = grind (arith, nat_tests, h.0) in
    let b : (i == j) ≡ true = grind (arith, nat_tests, h.0) in
    let c : nat_lt n k ≡ true = grind (arith, nat_tests, h.1) in
    rw (a, b, c) refl

pub false_less : (i n j k : ℕ) → (j < i) ⊎ ((i ≡ j) × (k ≤ n)) → is_less i n j k ≡ false
false_less i n j k (inl lt) =
    let a : nat_lt i j ≡ false = grind (arith, nat_tests) in
    let b : (i == j) ≡ false = grind (arith, nat_tests) in
    rw (a, b) refl
false_less i n j k (inr h) =
    let a : nat_lt i j ≡ false = grind (arith, nat_tests, h.0) in
    let c : nat_lt n k ≡ false = grind (arith, nat_tests, h.1) in
    elim (i == j) as (λ b. (nat_lt i j || (b && nat_lt n k)) ≡ false) [
      | true ↦ rw (a, c) refl
      | false ↦ rw a refl
    ]

-- a is before b, and c is not before b
pub less_on : (i n j k p q : ℕ) → is_less i n j k ≡ true → is_less p q j k ≡ false → is_less i n p q ≡ true
less_on i n j k p q g h =
    elim (less_true i n j k g) [
      | inl lt ↦ elim (less_false p q j k h) [
        | inl gt ↦ true_less i n p q (inl (omega arith))
        | inr e ↦ true_less i n p q (inl (omega (arith, e.0)))
      ]
      | inr a ↦ elim (less_false p q j k h) [
        | inl gt ↦ true_less i n p q (inl (omega (arith, a.0)))
        | inr e ↦ true_less i n p q (inr (omega (arith, a.0, e.0), omega (arith, a.1, e.1)))
      ]
    ]

pub less_not : (i n j k : ℕ) → is_less i n j k ≡ true → is_less j k i n ≡ false
less_not i n j k g =
    elim (less_true i n j k g) [
      | inl lt ↦ false_less j k i n (inl lt)
      | inr a ↦ false_less j k i n (inr (sym a.0, omega (arith, a.1)))
    ]

pub less_trans : (i n j k p q : ℕ) → is_less i n j k ≡ true → is_less j k p q ≡ true → is_less i n p q ≡ true
less_trans i n j k p q g h = less_on i n j k p q g (less_not j k p q h)

pub less_same : (i n : ℕ) → is_less i n i n ≡ false
less_same i n = false_less i n i n (inr (refl, omega arith))
