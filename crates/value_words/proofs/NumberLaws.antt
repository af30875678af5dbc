-- A number, digit by digit.
use Rattle.std.proofs.Common.{◌≡◌, ℕ, ◌+◌, ◌-◌, ◌*◌, ◌<◌, ◌≤◌, ◌&&◌, nat_le, Bool, true, false, List, [], ◌∷◌, length, drop, get_or, Some, None, refl, arith, add-one}
use Rattle.std.proofs.Math.Seq.{drop-cons, drop-length}
use Rattle.std.proofs.lemmas.Bool.Decides.{nat_tests}
use Rattle.value_words.specs.Words.{number_from, in_range, when_true}

pub number_more : (v i : ℕ) (w : List ℕ) → i < length w → number_from v (drop i w) ≡ number_from (10 * v + (get_or w i 0 - 48)) (drop (i + 1) w)
unfolding number_from
number_more v i w h = rw (add-one, drop-cons w i 0) refl

pub number_done : (v i : ℕ) (w : List ℕ) → i ≡ length w → number_from v (drop i w) ≡ v
unfolding number_from
number_done v i w e = rw (e, drop-length w) refl

grows : (v : ℕ) (w : List ℕ) → v ≤ number_from v w
unfolding number_from
grows v [] = omega arith
grows v (b ∷ bs) = let h : 10 * v + (b - 48) ≤ number_from (10 * v + (b - 48)) bs = grows (10 * v + (b - 48)) bs in omega arith

past_head : (a b : Bool) (n : ℕ) → b ≡ false → when_true (Some n) (a && b) ≡ None
unfolding when_true
past_head true b n e = rw e refl
past_head false b n e = refl

-- past the range, it stays past it
pub number_past : (low high v : ℕ) (w : List ℕ) → high < v → in_range low high (number_from v w) ≡ None
unfolding in_range
number_past low high v w h =
    let above : v ≤ number_from v w = grows v w in
    let test : nat_le (number_from v w) high ≡ false = grind (arith, nat_tests) in
    past_head (nat_le low (number_from v w)) (nat_le (number_from v w) high) (number_from v w) test
