-- What is kept under keys, as a line comes.
use Rattle.std.proofs.Common.{◌≡◌, ℕ, ◌+◌, Bool, true, false, List, [], ◌∷◌, length, Option, Some, None, refl, sym, ◌∙◌, cond}
use Rattle.std.specs.Prelude.{◌||◌, is_some}
use Rattle.std.specs.List.{list_any}
use Rattle.std.specs.Option.{option_map}
use Rattle.record_lines.specs.declared.line.Line.{Line}
use Rattle.run_audit.specs.Kept.{or_new, first_given, last_given}
use Rattle.run_audit.specs.Past.{first_no, last_no}

pub or_none : {V : Type 0} (o : Option V) → or_new o None ≡ o
or_none None = refl
or_none (Some x) = refl

-- ---- the numbers of lines, by what was given

pub first_line : {V : Type 0} (test : Line → Bool) (give : Line → ℕ → Option V) (number : V → ℕ) → ((l : Line) (k : ℕ) → option_map number (give l k) ≡ cond (test l) (Some k) None) → (ls : List Line)
    → first_no test ls ≡ option_map number (first_given give ls)
unfolding first_no
first_line test give number same [] = refl
first_line {V = V} test give number same (l ∷ ls) = by (first_no test ls) (first_given give ls) (give l (length ls + 1)) (test l) (first_line test give number same ls) (same l (length ls + 1))
  where
    by : (n : Option ℕ) (o g : Option V) (t : Bool) → n ≡ option_map number o → option_map number g ≡ cond t (Some (length ls + 1)) None
        → elim n [ Some k ↦ Some k | None ↦ elim t [ true ↦ Some (length ls + 1) | false ↦ None ] ] ≡ option_map number (or_new o g)
    by (Some k) (Some x) g t e f = e
    by (Some k) None g t e f = absurd cc
    by None (Some x) g t e f = absurd cc
    by None None g true e f = sym f
    by None None g false e f = sym f

pub last_line : {V : Type 0} (test : Line → Bool) (give : Line → ℕ → Option V) (number : V → ℕ) → ((l : Line) (k : ℕ) → option_map number (give l k) ≡ cond (test l) (Some k) None) → (ls : List Line)
    → last_no test ls ≡ option_map number (last_given give ls)
unfolding last_no
last_line test give number same [] = refl
last_line {V = V} test give number same (l ∷ ls) = by (last_no test ls) (last_given give ls) (give l (length ls + 1)) (test l) (last_line test give number same ls) (same l (length ls + 1))
  where
    by : (n : Option ℕ) (o g : Option V) (t : Bool) → n ≡ option_map number o → option_map number g ≡ cond t (Some (length ls + 1)) None
        → elim t [ true ↦ Some (length ls + 1) | false ↦ n ] ≡ option_map number (or_new g o)
    by n o (Some x) true e f = sym f
    by n o (Some x) false e f = absurd cc
    by n o None true e f = absurd cc
    by n o None false e f = e

-- there is one such line where there is a first
pub any_line : (test : Line → Bool) (ls : List Line) → list_any test ls ≡ is_some (first_no test ls)
unfolding first_no
any_line test [] = refl
any_line test (l ∷ ls) = by (test l) (first_no test ls) (any_line test ls)
  where
    by : (t : Bool) (n : Option ℕ) → list_any test ls ≡ is_some n → (t || list_any test ls) ≡ is_some (elim n [ Some k ↦ Some k | None ↦ elim t [ true ↦ Some (length ls + 1) | false ↦ None ] ])
    by true (Some k) e = refl
    by true None e = refl
    by false (Some k) e = e
    by false None e = e

-- ---- what a table has under its keys, before a line and after it

module _ {I V : Type 0} (same : I → I → Bool) (give : I → Line → ℕ → Option V) (k : I) (l : Line) (ls : List Line) (old new : I → Option V) where
  -- the first of a key comes
  pub first_noted : (x : V) → ((q : I) → same k q ≡ true → old q ≡ old k) → ((q : I) → give q l (length ls + 1) ≡ cond (same k q) (Some x) None) → old k ≡ None
      → ((q : I) → new q ≡ cond (same k q) (Some x) (old q)) → ((q : I) → old q ≡ first_given (give q) ls) → (q : I) → new q ≡ first_given (give q) (l ∷ ls)
  first_noted x equal gives none up kept q = up q ∙ by (same k q) refl (gives q)
    where
      by : (t : Bool) → same k q ≡ t → give q l (length ls + 1) ≡ cond t (Some x) None → cond t (Some x) (old q) ≡ or_new (first_given (give q) ls) (give q l (length ls + 1))
      by true e g =
          let o : first_given (give q) ls ≡ None = sym (kept q) ∙ equal q e ∙ none in
          rw (o, g) refl
      by false e g = rw g (kept q ∙ sym (or_none (first_given (give q) ls)))

  -- whatever was given before, the last is kept
  pub last_noted : (x : V) → ((q : I) → give q l (length ls + 1) ≡ cond (same k q) (Some x) None) → ((q : I) → new q ≡ cond (same k q) (Some x) (old q))
      → ((q : I) → old q ≡ last_given (give q) ls) → (q : I) → new q ≡ last_given (give q) (l ∷ ls)
  last_noted x gives up kept q = up q ∙ by (same k q) (gives q)
    where
      by : (t : Bool) → give q l (length ls + 1) ≡ cond t (Some x) None → cond t (Some x) (old q) ≡ or_new (give q l (length ls + 1)) (last_given (give q) ls)
      by true g = rw g refl
      by false g = rw g (kept q)

-- a key that has its first keeps it
module _ {I V : Type 0} (same : I → I → Bool) (give : I → Line → ℕ → Option V) (k : I) (l : Line) (ls : List Line) (old : I → Option V) where
  pub first_again : (y : V) → ((q : I) → same k q ≡ true → old q ≡ old k) → ((q : I) → same k q ≡ false → give q l (length ls + 1) ≡ None) → old k ≡ Some y
      → ((q : I) → old q ≡ first_given (give q) ls) → (q : I) → old q ≡ first_given (give q) (l ∷ ls)
  first_again y equal gives some kept q = kept q ∙ by (same k q) refl
    where
      by : (t : Bool) → same k q ≡ t → first_given (give q) ls ≡ or_new (first_given (give q) ls) (give q l (length ls + 1))
      by true e =
          let o : first_given (give q) ls ≡ Some y = sym (kept q) ∙ equal q e ∙ some in
          rw o refl
      by false e = let g = gives q e in rw g (sym (or_none (first_given (give q) ls)))
