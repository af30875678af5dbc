-- What a clock in memory tells grows by the moment that it gives.
use Rattle.std.proofs.Common.{◌≡◌, ℕ, zero, suc, ◌+◌, ◌-◌, ◌^◌, ◌<◌, Bool, true, false, List, [], ◌∷◌, ◌++◌, length, take, get_or, Some, None, refl, ap, arith, append_assoc, append-nil}
use Rattle.std.specs.Prelude.{nat_lt, replicate, if◌then◌else◌}
use Rattle.std.proofs.lemmas.List.{replicate_more}
use Rattle.std.proofs.lemmas.Bool.Decides.{nat_tests}
use Rattle.hags_io.specs.Links.{Counts}
use Rattle.hags_io.specs.LinkMemory.{told_moments, counted}

take_next : (ms : List ℕ) (n : ℕ) → n < length ms → take (n + 1) ms ≡ take n ms ++ get_or ms n 0 ∷ []
take_next [] n h = absurd (omega arith)
take_next (m ∷ ms) zero h = refl
take_next (m ∷ ms) (suc n) h =
    let within : n < length ms = omega arith in
    let e : suc n + 1 ≡ suc (n + 1) = omega arith in
    rw e (ap (λ ys. m ∷ ys) (take_next ms n within))

pub next_told : (ms : List ℕ) (given repeats : ℕ) → given < length ms → (0 < repeats → given ≡ length ms)
    → Counts (told_moments (record { moments = ms; given = given; repeats = repeats })) (told_moments (record { moments = ms; given = given + 1; repeats = repeats })) (get_or ms given 0 ∷ [])
next_told ms given zero h k = rw (append-nil (take (given + 1) ms), append-nil (take given ms)) (take_next ms given h)
next_told ms given (suc n) h k = let e : given ≡ length ms = k (omega arith) in absurd (omega arith)

counts_again : (front : List ℕ) (n x : ℕ) (b c : Bool) → nat_lt n (2 ^ 64 - 1) ≡ b → nat_lt (counted n) (2 ^ 64 - 1) ≡ c
    → Counts (if b then Some (front ++ replicate n x) else None) (if c then Some (front ++ replicate (counted n) x) else None) (x ∷ [])
counts_again front n x false false p q = tt
counts_again front n x true false p q = tt
counts_again front n x false true p q = absurd (grind (arith, nat_tests))
counts_again front n x true true p q =
    let e : counted n ≡ n + 1 = grind (arith, nat_tests) in
    rw (e, append_assoc, replicate_more) refl

pub again_told : (ms : List ℕ) (given repeats : ℕ)
    → Counts (told_moments (record { moments = ms; given = given; repeats = repeats })) (told_moments (record { moments = ms; given = given; repeats = counted repeats })) (get_or ms (length ms - 1) 0 ∷ [])
again_told ms given repeats = counts_again (take given ms) repeats (get_or ms (length ms - 1) 0) (nat_lt repeats (2 ^ 64 - 1)) (nat_lt (counted repeats) (2 ^ 64 - 1)) refl refl
