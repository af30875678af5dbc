-- Keys that own text are looked up by tests of what they say. What such a test finds, after a key was put.
use Rattle.std.proofs.Common.{◌≡◌, Bool, true, false, List, Option, Some, None, refl, sym, ◌∙◌, cond}
use Rattle.std.specs.Prelude.{is_some}
use Rattle.std.specs.Map.{lookup, IsKeyTest, KeepsOthers}

pub none_there : {V : Type 0} (o : Option V) → is_some o ≡ false → o ≡ None
none_there None e = refl
none_there (Some x) e = absurd cc

pub one_there : {V : Type 0} (o : Option V) → is_some o ≡ true → (x : V) × (o ≡ Some x)
one_there None e = absurd cc
one_there (Some x) e = (x, refl)

not_both : (s t : Bool) → s ≡ false → (t ≡ true → s ≡ true) → t ≡ false
not_both s false e f = refl
not_both true true e f = absurd cc
not_both false true e f = absurd (let g = f refl in cc)

module _ {I K V : Type 0} (eq : K → K → Bool) (test : I → K → Bool) (same : I → I → Bool) (here q : I) (key : K) (x : V) (es fs : List (K × V)) where
  pub put_found : IsKeyTest eq (test q) → ((k : K) → eq key k ≡ test here k) → ((k : K) → test here k ≡ true → test q k ≡ true → same here q ≡ true) → (same here q ≡ true → lookup (test q) fs ≡ lookup (test here) fs)
      → lookup (eq key) fs ≡ Some x → KeepsOthers eq (eq key) es fs → lookup (test q) fs ≡ cond (same here q) (Some x) (lookup (test q) es)
  unfolding KeepsOthers
  put_found is_test is joined moved put others = by (same here q) refl
    where
      by : (t : Bool) → same here q ≡ t → lookup (test q) fs ≡ cond t (Some x) (lookup (test q) es)
      by true e = moved e ∙ (sym (λ i. lookup (λ k. is k i) fs) ∙ put)
      by false e = others (test q) is_test (λ k h. not_both (same here q) (test q k) e (λ f. joined k (sym (is k) ∙ h) f))
