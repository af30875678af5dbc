-- Choices by numbers.
use Rattle.std.proofs.Common.{◌≡◌, ℕ, Bool, true, false, cond, Option, Some, None, sym, ap, ◌∙◌, refl}

-- a choice by numbers: the value that is found has the number
pub chosen : {A : Type 0} (number : A → ℕ) (n k : ℕ) (x y : A) (b : Bool) (rest : Option A) → (b ≡ true → k ≡ n) → number x ≡ n → (rest ≡ Some y → number y ≡ k) → cond b (Some x) rest ≡ Some y → number y ≡ k
chosen number n k x y true rest same is others e = let h : x ≡ y = cc in ap number (sym h) ∙ is ∙ sym (same refl)
chosen number n k x y false rest same is others e = others e

pub not_chosen : {A : Type 0} {P : Type 0} (y : A) → None ≡ Some y → P
not_chosen y e = absurd cc
