-- The i-th of the lines that are calls, line after line.
use Rattle.std.proofs.Common.{◌≡◌, ◌≢◌, ℕ, suc, zero, ◌-◌, ◌++◌, List, [], ◌∷◌, Option, Some, None, refl, sym, ◌∙◌, ap, arith}
use Rattle.std.specs.Prelude.{slice_get, flat_map}
use Rattle.world_model.specs.declared.script.Line.{Line}
use Rattle.world_model.specs.Settings.{Placed, calls_on}

-- the i-th call of these lines
abbrev pub call_in : List Line → ℕ → Option Placed
call_in ls i = slice_get (flat_map calls_on ls) i

first_line : (x : Line) (ls all : List Line) (cs : List Placed) (i : ℕ) → all ≡ x ∷ ls → calls_on x ≡ cs → call_in all i ≡ slice_get (cs ++ flat_map calls_on ls) i
first_line x ls all cs i e f = ap (λ ys. call_in ys i) e ∙ ap (λ ds. slice_get (ds ++ flat_map calls_on ls) i) f

pub call_here : (x : Line) (ls all : List Line) (p : Placed) (i : ℕ) (o : Option Placed) → all ≡ x ∷ ls → calls_on x ≡ p ∷ [] → i ≡ 0 → call_in all i ≡ o → o ≡ Some p
call_here x ls all p i o e f z h = sym h ∙ (ap (λ k. call_in all k) z ∙ first_line x ls all (p ∷ []) 0 e f)

get_past : (p : Placed) (ps : List Placed) (i : ℕ) → i ≢ 0 → slice_get (p ∷ ps) i ≡ slice_get ps (i - 1)
get_past p ps zero h = absurd (h refl)
get_past p ps (suc i) h = let back : i ≡ suc i - 1 = omega arith in ap (λ k. slice_get ps k) back

pub call_past : (x : Line) (ls all : List Line) (p : Placed) (i : ℕ) (o : Option Placed) → all ≡ x ∷ ls → calls_on x ≡ p ∷ [] → i ≢ 0 → call_in all i ≡ o → call_in ls (i - 1) ≡ o
call_past x ls all p i o e f z h = sym (get_past p (flat_map calls_on ls) i z) ∙ (sym (first_line x ls all (p ∷ []) i e f) ∙ h)

pub other_past : (x : Line) (ls all : List Line) (i : ℕ) (o : Option Placed) → all ≡ x ∷ ls → calls_on x ≡ [] → call_in all i ≡ o → call_in ls i ≡ o
other_past x ls all i o e f h = sym (first_line x ls all [] i e f) ∙ h

pub call_ends : (all : List Line) (i : ℕ) (o : Option Placed) → all ≡ [] → call_in all i ≡ o → o ≡ None
call_ends all i o e h = sym h ∙ ap (λ ys. call_in ys i) e

pub ruleset each_call = (call_here, call_past, other_past, call_ends)
