-- A list in front of which some were taken off.
use Rattle.std.proofs.Common.{◌≡◌, ℕ, zero, suc, ◌+◌, ◌<◌, List, [], ◌∷◌, drop, Some, None, refl, sym, ap, ◌∙◌, arith}
use Rattle.std.specs.Prelude.{slice_get}

drop_next : {A : Type 0} (xs rest : List A) (k : ℕ) (x : A) → drop k xs ≡ x ∷ rest → drop (suc k) xs ≡ rest
drop_next [] rest zero x e = absurd cc
drop_next [] rest (suc k) x e = absurd cc
drop_next (y ∷ ys) rest zero x e = cc
drop_next (y ∷ ys) rest (suc k) x e = drop_next ys rest k x e

pub dropped_one : {A : Type 0} (xs left rest : List A) (k : ℕ) (x : A) → left ≡ drop k xs → left ≡ x ∷ rest → rest ≡ drop (k + 1) xs
dropped_one xs left rest k x e f = let n : k + 1 ≡ suc k = omega arith in rw n (sym (drop_next xs rest k x (sym e ∙ f)))

get_past : {A : Type 0} (xs : List A) (k i : ℕ) → drop k xs ≡ [] → k < suc i → slice_get xs i ≡ None
get_past [] k i e lt = refl
get_past (y ∷ ys) zero i e lt = absurd cc
get_past (y ∷ ys) (suc k) zero e lt = absurd (omega arith)
get_past (y ∷ ys) (suc k) (suc i) e lt = get_past ys k i e (omega arith)

pub dropped_all : {A : Type 0} (xs left : List A) (k i : ℕ) → left ≡ drop k xs → left ≡ [] → k < i → None ≡ slice_get xs i
dropped_all xs left k i e f lt = sym (get_past xs k i (sym e ∙ f) (omega arith))

get_here : {A : Type 0} (xs rest : List A) (i : ℕ) (x : A) → drop i xs ≡ x ∷ rest → slice_get xs i ≡ Some x
get_here [] rest zero x e = absurd cc
get_here [] rest (suc i) x e = absurd cc
get_here (y ∷ ys) rest zero x e = let same : y ≡ x = cc in ap Some same
get_here (y ∷ ys) rest (suc i) x e = get_here ys rest i x e

pub got_one : {A : Type 0} (xs left rest : List A) (i : ℕ) (x : A) → left ≡ drop i xs → left ≡ x ∷ rest → Some x ≡ slice_get xs i
got_one xs left rest i x e f = sym (get_here xs rest i x (sym e ∙ f))

pub got_none : {A : Type 0} (xs left : List A) (i : ℕ) → left ≡ drop i xs → left ≡ [] → None ≡ slice_get xs i
got_none xs left i e f = sym (get_past xs i i (sym e ∙ f) (omega arith))
