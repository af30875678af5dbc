-- What is in a list, and the first element that passes a test: its place, itself, and the list with it replaced.
use Rattle.std.specs.Prelude.{◌≡◌, ◌⊎◌, ℕ, suc, Bool, List, [], ◌∷◌, Option, Some, None, if◌then◌else◌}
use Rattle.std.specs.Option.{option_map}

-- x is in the list
abbrev pub Has : {A : Type 0} → A → List A → Type 0
Has x [] = ⊥
Has x (y ∷ ys) = (x ≡ y) ⊎ Has x ys

abbrev pub place_where : {A : Type 0} → (A → Bool) → List A → Option ℕ
place_where test [] = None
place_where test (x ∷ xs) = if test x then Some 0 else option_map suc (place_where test xs)

abbrev pub edit_where : {A : Type 0} → (A → Bool) → (A → A) → List A → List A
edit_where test f [] = []
edit_where test f (x ∷ xs) = if test x then f x ∷ xs else x ∷ edit_where test f xs

-- how many elements stand before the first that passes
abbrev pub front_len : {A : Type 0} → (A → Bool) → List A → ℕ
front_len test [] = 0
front_len test (x ∷ xs) = if test x then 0 else suc (front_len test xs)

-- with y before the first that passes
abbrev pub insert_before : {A : Type 0} → (A → Bool) → A → List A → List A
insert_before test y [] = y ∷ []
insert_before test y (x ∷ xs) = if test x then y ∷ x ∷ xs else x ∷ insert_before test y xs
