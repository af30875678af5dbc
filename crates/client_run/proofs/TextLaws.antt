-- Events, line by line.
use Rattle.std.proofs.Common.{◌≡◌, ℕ, zero, suc, ◌+◌, List, [], ◌∷◌, ◌++◌, length, drop, Some, None, refl, sym, ◌∙◌, ap, append_assoc, append-nil, arith}
use Rattle.std.specs.Prelude.{slice_get}
use Rattle.client_run.specs.Turns.{event_lines}

drop_next : {A : Type 0} (place : ℕ) (xs : List A) (x : A) → Some x ≡ slice_get xs place → drop place xs ≡ x ∷ drop (place + 1) xs
drop_next place [] x e = absurd cc
drop_next zero (y ∷ ys) x e = let s : y ≡ x = cc in ap (λ (z : _). z ∷ ys) s
drop_next (suc place) (y ∷ ys) x e =
    let s : suc (place + 1) ≡ suc place + 1 = omega arith in
    drop_next place ys x e ∙ ap (λ (n : ℕ). x ∷ drop n (y ∷ ys)) s

drop_none : {A : Type 0} (place : ℕ) (xs : List A) → None ≡ slice_get xs place → drop place xs ≡ []
drop_none zero [] e = refl
drop_none (suc place) [] e = refl
drop_none zero (y ∷ ys) e = absurd cc
drop_none (suc place) (y ∷ ys) e = drop_none place ys e

lines_cons : (line : List ℕ) (lines : List (List ℕ)) → event_lines (line ∷ lines) ≡ (line ++ 10 ∷ []) ++ event_lines lines
unfolding event_lines
lines_cons line lines = refl

lines_nil : event_lines [] ≡ []
unfolding event_lines
lines_nil = refl

-- the next event is written
pub events_next : (out line start : List ℕ) (place : ℕ) (heard : List (List ℕ)) → Some line ≡ slice_get heard place → out ++ event_lines (drop place heard) ≡ start
    → ((out ++ line) ++ 10 ∷ []) ++ event_lines (drop (place + 1) heard) ≡ start
events_next out line start place heard e h =
    append_assoc (out ++ line) (10 ∷ []) (event_lines (drop (place + 1) heard))
    ∙ (append_assoc out line (10 ∷ event_lines (drop (place + 1) heard))
    ∙ (ap (λ t. out ++ t) (sym (append_assoc line (10 ∷ []) (event_lines (drop (place + 1) heard))))
    ∙ (ap (λ t. out ++ t) (sym (lines_cons line (drop (place + 1) heard)))
    ∙ (ap (λ ls. out ++ event_lines ls) (sym (drop_next place heard line e)) ∙ h))))

pub count_next : (line : List ℕ) (place n : ℕ) (heard : List (List ℕ)) → Some line ≡ slice_get heard place → place + length (drop place heard) ≡ n → (place + 1) + length (drop (place + 1) heard) ≡ n
count_next line place n heard e h =
    let s : length (drop place heard) ≡ suc (length (drop (place + 1) heard)) = ap length (drop_next place heard line e) in omega arith

-- all are written
pub events_end : (out start : List ℕ) (place : ℕ) (heard : List (List ℕ)) → None ≡ slice_get heard place → out ++ event_lines (drop place heard) ≡ start → out ≡ start
events_end out start place heard e h =
    sym (append-nil out) ∙ (ap (λ t. out ++ t) (sym lines_nil) ∙ (ap (λ ls. out ++ event_lines ls) (sym (drop_none place heard e)) ∙ h))

pub count_end : (place n : ℕ) (heard : List (List ℕ)) → None ≡ slice_get heard place → place + length (drop place heard) ≡ n → place ≡ n
count_end place n heard e h = let s : length (drop place heard) ≡ 0 = ap length (drop_none place heard e) in omega arith
