-- What is in a list that was filtered, joined, turned, cut or made from another, and what a search finds.
use Rattle.std.proofs.Common.{◌≡◌, ℕ, zero, suc, ◌<◌, ◌⊎◌, Bool, true, false, List, [], ◌∷◌, ◌++◌, length, take, drop, Some, refl, sym, ap, subst, ◌∙◌, inl, inr, ⊎_elim, arith}
use Rattle.std.specs.Prelude.{filter, map, find, is_none, slice_get, reverse, if◌then◌else◌}
use Rattle.std.specs.List.{list_all}
use Rattle.std.proofs.lemmas.Bool.{and_parts}
use Rattle.std.proofs.lemmas.List.{reverse-append, reverse-reverse}
use Rattle.rsct_packet.specs.Search.{Has}

pub has_filter : {A : Type 0} (test : A → Bool) (x : A) (xs : List A) → Has x (filter test xs) → Has x xs × (test x ≡ true)
has_filter test x [] h = absurd h
has_filter test x (y ∷ ys) h = by (test y) refl (has_filter test x ys) h
  where
    by : (b : Bool) → test y ≡ b → (Has x (filter test ys) → Has x ys × (test x ≡ true)) → Has x (if b then y ∷ filter test ys else filter test ys) → Has x (y ∷ ys) × (test x ≡ true)
    by true e more (inl s) = (inl s, ap test s ∙ e)
    by true e more (inr t) = let r = more t in (inr r.0, r.1)
    by false e more t = let r = more t in (inr r.0, r.1)

pub filter_has : {A : Type 0} (test : A → Bool) (x : A) (xs : List A) → Has x xs → test x ≡ true → Has x (filter test xs)
filter_has test x [] h e = absurd h
filter_has test x (y ∷ ys) h e = by (test y) refl (λ t. filter_has test x ys t e) h
  where
    by : (b : Bool) → test y ≡ b → (Has x ys → Has x (filter test ys)) → Has x (y ∷ ys) → Has x (if b then y ∷ filter test ys else filter test ys)
    by true f more (inl s) = inl s
    by true f more (inr t) = inr (more t)
    by false f more (inl s) = absurd (let g : test y ≡ true = ap test (sym s) ∙ e in cc)
    by false f more (inr t) = more t

pub has_append : {A : Type 0} (x : A) (xs ys : List A) → Has x (xs ++ ys) → Has x xs ⊎ Has x ys
has_append x [] ys h = inr h
has_append x (y ∷ xs) ys (inl e) = inl (inl e)
has_append x (y ∷ xs) ys (inr h) = ⊎_elim (λ (a : Has x xs). inl (inr a)) (λ (b : Has x ys). inr b) (has_append x xs ys h)

pub append_has_left : {A : Type 0} (x : A) (xs ys : List A) → Has x xs → Has x (xs ++ ys)
append_has_left x [] ys h = absurd h
append_has_left x (y ∷ xs) ys (inl e) = inl e
append_has_left x (y ∷ xs) ys (inr h) = inr (append_has_left x xs ys h)

pub append_has_right : {A : Type 0} (x : A) (xs ys : List A) → Has x ys → Has x (xs ++ ys)
append_has_right x [] ys h = h
append_has_right x (y ∷ xs) ys h = inr (append_has_right x xs ys h)

-- what is in a list of images is the image of one
pub has_map : {A B : Type 0} (f : A → B) (y : B) (xs : List A) → Has y (map f xs) → (x : A) × Has x xs × (y ≡ f x)
has_map f y [] h = absurd h
has_map f y (x ∷ xs) (inl e) = (x, inl refl, e)
has_map f y (x ∷ xs) (inr h) = let r = has_map f y xs h in (r.0, inr r.1, r.2)

pub map_has : {A B : Type 0} (f : A → B) (x : A) (xs : List A) → Has x xs → Has (f x) (map f xs)
map_has f x [] h = absurd h
map_has f x (y ∷ ys) (inl e) = inl (ap f e)
map_has f x (y ∷ ys) (inr h) = inr (map_has f x ys h)

-- a test that holds of a list holds of what is in it
pub all_has : {A : Type 0} (test : A → Bool) (xs : List A) (x : A) → list_all test xs ≡ true → Has x xs → test x ≡ true
all_has test [] x e h = absurd h
all_has test (y ∷ ys) x e h =
    let p = and_parts (test y) (list_all test ys) e in
    ⊎_elim (λ (s : x ≡ y). ap test s ∙ p.0) (λ (t : Has x ys). all_has test ys x p.1 t) h

-- what is found is there, and passes
pub find_has : {A : Type 0} (test : A → Bool) (xs : List A) (x : A) → find test xs ≡ Some x → Has x xs × (test x ≡ true)
find_has test [] x e = absurd (cc)
find_has test (y ∷ ys) x e = by (test y) refl (find_has test ys x) e
  where
    by : (b : Bool) → test y ≡ b → (find test ys ≡ Some x → Has x ys × (test x ≡ true)) → (if b then Some y else find test ys) ≡ Some x → Has x (y ∷ ys) × (test x ≡ true)
    by true f more g = let s : x ≡ y = cc in (inl s, ap test s ∙ f)
    by false f more g = let r = more g in (inr r.0, r.1)

-- where none is found, none passes
pub find_none : {A : Type 0} (test : A → Bool) (xs : List A) (x : A) → is_none (find test xs) ≡ true → Has x xs → test x ≡ true → ⊥
find_none test [] x e h t = h
find_none test (y ∷ ys) x e h t = by (test y) refl (λ e h. find_none test ys x e h t) e h
  where
    by : (b : Bool) → test y ≡ b → (is_none (find test ys) ≡ true → Has x ys → ⊥) → is_none (if b then Some y else find test ys) ≡ true → Has x (y ∷ ys) → ⊥
    by true f more g h = cc
    by false f more g (inl s) = let u : test y ≡ true = ap test (sym s) ∙ t in cc
    by false f more g (inr k) = more g k

-- what is got from a list is in it
pub get_has : {A : Type 0} (xs : List A) (i : ℕ) (x : A) → slice_get xs i ≡ Some x → Has x xs
get_has [] i x e = absurd (cc)
get_has (y ∷ ys) zero x e = let s : x ≡ y = cc in inl s
get_has (y ∷ ys) (suc i) x e = inr (get_has ys i x e)

-- what is in a list stands at a place of it
pub has_get : {A : Type 0} (x : A) (xs : List A) → Has x xs → (i : ℕ) × (i < length xs) × (slice_get xs i ≡ Some x)
has_get x [] h = absurd h
has_get x (y ∷ ys) (inl e) = (0, omega arith, ap Some (sym e))
has_get x (y ∷ ys) (inr h) = let r = has_get x ys h in (suc r.0, omega (arith, r.1), r.2)

pub has_drop : {A : Type 0} (n : ℕ) (xs : List A) (x : A) → Has x (drop n xs) → Has x xs
has_drop zero xs x i = i
has_drop (suc n) [] x i = absurd i
has_drop (suc n) (y ∷ xs) x i = inr (has_drop n xs x i)

pub has_take : {A : Type 0} (n : ℕ) (xs : List A) (x : A) → Has x (take n xs) → Has x xs
has_take zero xs x i = absurd i
has_take (suc n) [] x i = absurd i
has_take (suc n) (y ∷ xs) x (inl e) = inl e
has_take (suc n) (y ∷ xs) x (inr i) = inr (has_take n xs x i)

pub has_reverse : {A : Type 0} (x : A) (xs : List A) → Has x (reverse xs) → Has x xs
has_reverse x [] h = h
has_reverse x (y ∷ ys) h = ⊎_elim (λ (a : Has x (reverse ys)). inr (has_reverse x ys a)) (λ (a : Has x (y ∷ [])). last a) (has_append x (reverse ys) (y ∷ []) (subst (Has x) (reverse-append (y ∷ []) ys) h))
  where
    last : Has x (y ∷ []) → Has x (y ∷ ys)
    last (inl e) = inl e
    last (inr z) = absurd z

pub reverse_has : {A : Type 0} (x : A) (xs : List A) → Has x xs → Has x (reverse xs)
reverse_has x xs h = has_reverse x (reverse xs) (subst (Has x) (sym (reverse-reverse xs)) h)
