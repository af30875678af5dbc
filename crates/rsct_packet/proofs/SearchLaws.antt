-- A search from the front, and what is found there.
use Rattle.std.proofs.Common.{◌≡◌, ℕ, suc, ◌+◌, ◌≤◌, ◌<◌, ◌⊎◌, not, Bool, true, false, cond, List, [], ◌∷◌, length, get_or, set, Option, Some, None, refl, sym, ap, ◌∙◌, inl, inr, arith}
use Rattle.std.specs.Option.{option_map, unwrap_or}
use Rattle.std.specs.Prelude.{◌||◌, slice_get, insert, remove, find, nat_lt}
use Rattle.std.specs.List.{list_any, position, position_or_len}
use Rattle.rsct_packet.specs.Lists.{drop_where}
use Rattle.rsct_packet.specs.Search.{Has, place_where, edit_where, front_len, insert_before}

-- what `position` of std finds
pub place_is_position : {A : Type 0} (test : A → Bool) (xs : List A) → place_where test xs ≡ position test xs
place_is_position test [] = refl
place_is_position test (x ∷ xs) =
    rw (place_is_position test xs, place_where, position, position_or_len)
    elim (test x) as (λ b. cond b (Some 0) (option_map suc (position test xs)) ≡ cond (nat_lt (cond (not b) (1 + position_or_len test xs) 0) (suc (length xs))) (Some (cond (not b) (1 + position_or_len test xs) 0)) None) [
      | true ↦ grind arith
      | false ↦ grind arith
    ]

front_is_place : {A : Type 0} (test : A → Bool) (xs : List A) → front_len test xs ≡ unwrap_or (place_where test xs) (length xs)
front_is_place test [] = refl
front_is_place test (x ∷ xs) = elim (test x) as (λ b. cond b 0 (suc (front_len test xs)) ≡ unwrap_or (cond b (Some 0) (option_map suc (place_where test xs))) (suc (length xs))) [ true ↦ refl | false ↦ rw (front_is_place test xs) grind arith ]

-- the place of the first that passes, or else the end
pub front_is_position : {A : Type 0} (test : A → Bool) (xs : List A) → front_len test xs ≡ unwrap_or (position test xs) (length xs)
front_is_position test xs = front_is_place test xs ∙ ap (λ o. unwrap_or o (length xs)) (place_is_position test xs)

-- one element more in front
get_at_head : {A : Type 0} (b : Bool) (o : Option ℕ) (x : A) (xs : List A) (rest : Option A) → ((k : ℕ) → o ≡ Some k → slice_get xs k ≡ rest) → (i : ℕ) → cond b (Some 0) (option_map suc o) ≡ Some i → slice_get (x ∷ xs) i ≡ cond b (Some x) rest
get_at_head true o x xs rest ih i e = let k : 0 ≡ i = cc in rw (← k) refl
get_at_head false None x xs rest ih i e = absurd cc
get_at_head false (Some k) x xs rest ih i e = let s : suc k ≡ i = cc in rw (← s) (ih k refl)

set_at_head : {A : Type 0} (b : Bool) (o : Option ℕ) (f : A → A) (d x : A) (xs rest : List A) → ((k : ℕ) → o ≡ Some k → set xs k (f (get_or xs k d)) ≡ rest) → (i : ℕ) → cond b (Some 0) (option_map suc o) ≡ Some i → set (x ∷ xs) i (f (get_or (x ∷ xs) i d)) ≡ cond b (f x ∷ xs) (x ∷ rest)
set_at_head true o f d x xs rest ih i e = let k : 0 ≡ i = cc in rw (← k) refl
set_at_head false None f d x xs rest ih i e = absurd cc
set_at_head false (Some k) f d x xs rest ih i e = let s : suc k ≡ i = cc in rw (← s) (ap (λ (ys : List _). x ∷ ys) (ih k refl))

-- what stands at the place that is found
pub get_at_place : {A : Type 0} (test : A → Bool) (xs : List A) (i : ℕ) → place_where test xs ≡ Some i → slice_get xs i ≡ find test xs
get_at_place test [] i e = absurd cc
get_at_place test (x ∷ xs) i e = get_at_head (test x) (place_where test xs) x xs (find test xs) (λ k h. get_at_place test xs k h) i e

pub set_at_place : {A : Type 0} (test : A → Bool) (f : A → A) (d : A) (xs : List A) (i : ℕ) → place_where test xs ≡ Some i → set xs i (f (get_or xs i d)) ≡ edit_where test f xs
set_at_place test f d [] i e = absurd cc
set_at_place test f d (x ∷ xs) i e = set_at_head (test x) (place_where test xs) f d x xs (edit_where test f xs) (λ k h. set_at_place test f d xs k h) i e

missing_head : {A : Type 0} (b : Bool) (o : Option ℕ) (x : A) (rest : Option A) → (o ≡ None → rest ≡ None) → cond b (Some 0) (option_map suc o) ≡ None → cond b (Some x) rest ≡ None
missing_head true o x rest ih e = absurd cc
missing_head false None x rest ih e = ih refl
missing_head false (Some k) x rest ih e = absurd cc

pub missing_at_place : {A : Type 0} (test : A → Bool) (xs : List A) → place_where test xs ≡ None → find test xs ≡ None
missing_at_place test [] e = refl
missing_at_place test (x ∷ xs) e = missing_head (test x) (place_where test xs) x (find test xs) (missing_at_place test xs) e

place_in_head : {A : Type 0} (b : Bool) (o : Option ℕ) (xs : List A) → ((k : ℕ) → o ≡ Some k → k < length xs) → (i : ℕ) → cond b (Some 0) (option_map suc o) ≡ Some i → i < suc (length xs)
place_in_head true o xs ih i e = let k : 0 ≡ i = cc in omega arith
place_in_head false None xs ih i e = absurd cc
place_in_head false (Some k) xs ih i e = let s : suc k ≡ i = cc in let h = ih k refl in omega arith

pub place_is_in : {A : Type 0} (test : A → Bool) (xs : List A) (i : ℕ) → place_where test xs ≡ Some i → i < length xs
place_is_in test [] i e = absurd cc
place_is_in test (x ∷ xs) i e = place_in_head (test x) (place_where test xs) xs (λ k h. place_is_in test xs k h) i e

-- the same for an element that was read there
pub set_is_edit : {A : Type 0} (test : A → Bool) (f : A → A) (xs : List A) (i : ℕ) (x y : A) → Some i ≡ place_where test xs → x ≡ get_or xs i x → y ≡ f x → set xs i y ≡ edit_where test f xs
set_is_edit test f xs i x y e read changed = ap (set xs i) (changed ∙ ap f read) ∙ set_at_place test f x xs i (sym e)

pub front_is_in : {A : Type 0} (test : A → Bool) (xs : List A) → front_len test xs ≤ length xs
front_is_in test [] = omega arith
front_is_in test (x ∷ xs) =
    let h = front_is_in test xs in
    elim (test x) as (λ b. cond b 0 (suc (front_len test xs)) ≤ suc (length xs)) [ true ↦ omega arith | false ↦ omega arith ]

pub insert_at_front : {A : Type 0} (test : A → Bool) (y : A) (xs : List A) → insert xs (front_len test xs) y ≡ insert_before test y xs
insert_at_front test y [] = refl
insert_at_front test y (x ∷ xs) =
    let h = insert_at_front test y xs in
    elim (test x) as (λ b. insert (x ∷ xs) (cond b 0 (suc (front_len test xs))) y ≡ cond b (y ∷ x ∷ xs) (x ∷ insert_before test y xs)) [ true ↦ refl | false ↦ ap (λ (ys : List _). x ∷ ys) h ]

missing_edit_head : {A : Type 0} (b : Bool) (o : Option ℕ) (f : A → A) (x : A) (xs rest : List A) → (o ≡ None → rest ≡ xs) → cond b (Some 0) (option_map suc o) ≡ None → cond b (f x ∷ xs) (x ∷ rest) ≡ x ∷ xs
missing_edit_head true o f x xs rest ih e = absurd cc
missing_edit_head false None f x xs rest ih e = ap (λ (ys : List _). x ∷ ys) (ih refl)
missing_edit_head false (Some k) f x xs rest ih e = absurd cc

pub missing_edit : {A : Type 0} (test : A → Bool) (f : A → A) (xs : List A) → None ≡ place_where test xs → edit_where test f xs ≡ xs
missing_edit test f [] e = refl
missing_edit test f (x ∷ xs) e = missing_edit_head (test x) (place_where test xs) f x xs (edit_where test f xs) (λ h. missing_edit test f xs (sym h)) (sym e)

read_at_head : {A : Type 0} (b : Bool) (o : Option ℕ) (x : A) (xs : List A) (rest : Option A) (d : A) → ((k : ℕ) → o ≡ Some k → rest ≡ Some (get_or xs k d)) → (i : ℕ) → cond b (Some 0) (option_map suc o) ≡ Some i → cond b (Some x) rest ≡ Some (get_or (x ∷ xs) i d)
read_at_head true o x xs rest d ih i e = let k : 0 ≡ i = cc in rw (← k) refl
read_at_head false None x xs rest d ih i e = absurd cc
read_at_head false (Some k) x xs rest d ih i e = let s : suc k ≡ i = cc in rw (← s) (ih k refl)

-- what is read at the place that is found
pub read_at_place : {A : Type 0} (test : A → Bool) (xs : List A) (i : ℕ) (d : A) → place_where test xs ≡ Some i → find test xs ≡ Some (get_or xs i d)
read_at_place test [] i d e = absurd cc
read_at_place test (x ∷ xs) i d e = read_at_head (test x) (place_where test xs) x xs (find test xs) d (λ k h. read_at_place test xs k d h) i e

removed_head : {A : Type 0} (b : Bool) (o : Option ℕ) (x : A) (xs rest : List A) → ((k : ℕ) → o ≡ Some k → remove xs k ≡ rest) → (i : ℕ) → cond b (Some 0) (option_map suc o) ≡ Some i → remove (x ∷ xs) i ≡ elim b [ true ↦ xs | false ↦ x ∷ rest ]
removed_head true o x xs rest ih i e = let k : 0 ≡ i = cc in rw (← k) refl
removed_head false None x xs rest ih i e = absurd cc
removed_head false (Some k) x xs rest ih i e = let s : suc k ≡ i = cc in rw (← s) (ap (λ (ys : List _). x ∷ ys) (ih k refl))

removed_at : {A : Type 0} (test : A → Bool) (xs : List A) (i : ℕ) → place_where test xs ≡ Some i → remove xs i ≡ drop_where test xs
removed_at test [] i e = absurd cc
removed_at test (x ∷ xs) i e = removed_head (test x) (place_where test xs) x xs (drop_where test xs) (λ k h. removed_at test xs k h) i e

-- the first that passes, taken out at its place
pub removed_where : {A : Type 0} (test : A → Bool) (xs : List A) (i : ℕ) → Some i ≡ place_where test xs → remove xs i ≡ drop_where test xs
removed_where test xs i e = removed_at test xs i (sym e)

none_head : {A : Type 0} (b : Bool) (o : Option ℕ) (x : A) (xs rest : List A) → (o ≡ None → rest ≡ xs) → cond b (Some 0) (option_map suc o) ≡ None → elim b [ true ↦ xs | false ↦ x ∷ rest ] ≡ x ∷ xs
none_head true o x xs rest ih e = absurd cc
none_head false None x xs rest ih e = ap (λ (ys : List _). x ∷ ys) (ih refl)
none_head false (Some k) x xs rest ih e = absurd cc

none_dropped : {A : Type 0} (test : A → Bool) (xs : List A) → place_where test xs ≡ None → drop_where test xs ≡ xs
none_dropped test [] e = refl
none_dropped test (x ∷ xs) e = none_head (test x) (place_where test xs) x xs (drop_where test xs) (λ h. none_dropped test xs h) e

-- where none passes
pub removed_nowhere : {A : Type 0} (test : A → Bool) (xs : List A) → None ≡ place_where test xs → xs ≡ drop_where test xs
removed_nowhere test xs e = sym (none_dropped test xs (sym e))

-- what is found is in the list, and passes
pub place_has : {A : Type 0} (test : A → Bool) (xs : List A) (i : ℕ) → place_where test xs ≡ Some i → (x : A) × Has x xs × (test x ≡ true)
place_has test [] i e = absurd cc
place_has {A = A} test (y ∷ ys) i e = by (test y) refl (place_where test ys) (place_has test ys) e
  where
    by : (t : Bool) → test y ≡ t → (o : Option ℕ) → ((j : ℕ) → o ≡ Some j → (x : A) × Has x ys × (test x ≡ true)) → cond t (Some 0) (option_map suc o) ≡ Some i → (x : A) × ((x ≡ y) ⊎ Has x ys) × (test x ≡ true)
    by true p o more e = (y, inl refl, p)
    by false p None more e = absurd cc
    by false p (Some j) more e = let r = more j refl in (r.0, inr r.1, r.2)

nowhere_head : (b any : Bool) (o : Option ℕ) → (any ≡ false → o ≡ None) → b || any ≡ false → cond b (Some 0) (option_map suc o) ≡ None
nowhere_head true any o ih e = absurd cc
nowhere_head false any o ih e = ap (option_map suc) (ih e)

-- where none passes, none is found
pub place_nowhere : {A : Type 0} (test : A → Bool) (xs : List A) → list_any test xs ≡ false → place_where test xs ≡ None
place_nowhere test [] e = refl
place_nowhere test (x ∷ xs) e = nowhere_head (test x) (list_any test xs) (place_where test xs) (place_nowhere test xs) e
