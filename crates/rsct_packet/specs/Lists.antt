-- Small words on lists and options, which compute.
use Rattle.std.specs.Prelude.{Bool, true, false, List, [], ◌∷◌, Option, Some, None}

abbrev pub is_empty : {A : Type 0} → List A → Bool
is_empty [] = true
is_empty (x ∷ xs) = false

-- without the first that passes
abbrev pub drop_where : {A : Type 0} → (A → Bool) → List A → List A
drop_where test [] = []
drop_where test (x ∷ xs) = elim (test x) [ true ↦ xs | false ↦ x ∷ drop_where test xs ]

-- the elements of the first, last one first, in front of the second
abbrev pub reverse_onto : {A : Type 0} → List A → List A → List A
reverse_onto [] ys = ys
reverse_onto (x ∷ xs) ys = reverse_onto xs (x ∷ ys)

-- the element that beats all others, the first of equals
abbrev pub best_from : {A : Type 0} → (A → A → Bool) → A → List A → A
best_from beats a [] = a
best_from beats a (x ∷ xs) = elim (beats x a) [ true ↦ best_from beats x xs | false ↦ best_from beats a xs ]

abbrev pub best_of : {A : Type 0} → (A → A → Bool) → List A → Option A
best_of beats [] = None
best_of beats (x ∷ xs) = Some (best_from beats x xs)
