-- What is in a list after an edit of what passes a test, and after one is put in.
use Rattle.std.proofs.Common.{◌≡◌, Bool, true, false, cond, List, [], ◌∷◌, None, refl, ap, ◌∙◌, inl, inr, ⊎_elim, ◌⊎◌}
use Rattle.std.specs.Prelude.{is_none}
use Rattle.rsct_packet.specs.Search.{Has, place_where, edit_where, insert_before}
use Rattle.rsct_packet.proofs.HasLaws.{find_none}
use Rattle.rsct_packet.proofs.SearchLaws.{missing_at_place}

pub inserted_has : {A : Type 0} (test : A → Bool) (y x : A) (xs : List A) → Has x (insert_before test y xs) → (x ≡ y) ⊎ Has x xs
inserted_has test y x [] h = h
inserted_has test y x (z ∷ zs) h = by (test z) h (inserted_has test y x zs)
  where
    by : (t : Bool) → Has x (cond t (y ∷ z ∷ zs) (z ∷ insert_before test y zs)) → (Has x (insert_before test y zs) → (x ≡ y) ⊎ Has x zs) → (x ≡ y) ⊎ ((x ≡ z) ⊎ Has x zs)
    by true h more = h
    by false (inl e) more = inr (inl e)
    by false (inr k) more = ⊎_elim (λ (s : x ≡ y). inl s) (λ (s : Has x zs). inr (inr s)) (more k)

pub has_inserted : {A : Type 0} (test : A → Bool) (y x : A) (xs : List A) → (x ≡ y) ⊎ Has x xs → Has x (insert_before test y xs)
has_inserted test y x [] h = h
has_inserted test y x (z ∷ zs) h = by (test z) h (has_inserted test y x zs)
  where
    by : (t : Bool) → (x ≡ y) ⊎ ((x ≡ z) ⊎ Has x zs) → ((x ≡ y) ⊎ Has x zs → Has x (insert_before test y zs)) → Has x (cond t (y ∷ z ∷ zs) (z ∷ insert_before test y zs))
    by true h more = h
    by false (inl e) more = inr (more (inl e))
    by false (inr (inl e)) more = inl e
    by false (inr (inr k)) more = inr (more (inr k))

-- at most one passes
abbrev pub Once : {A : Type 0} → (A → Bool) → List A → Type 0
Once test [] = Unit {0}
Once test (x ∷ xs) = (test x ≡ true → (y : _) → Has y xs → test y ≡ false) × Once test xs

-- what an edit left: one that does not pass, or the image of one that does
pub edited_has : {A : Type 0} (test : A → Bool) (f : A → A) (x : A) (xs : List A) → Once test xs → Has x (edit_where test f xs) → (Has x xs × (test x ≡ false)) ⊎ ((k : A) × Has k xs × (test k ≡ true) × (x ≡ f k))
edited_has test f x [] once h = absurd h
edited_has {A = A} test f x (y ∷ ys) once h = by (test y) refl h (edited_has test f x ys once.1)
  where
    by : (t : Bool) → test y ≡ t → Has x (cond t (f y ∷ ys) (y ∷ edit_where test f ys)) → (Has x (edit_where test f ys) → (Has x ys × (test x ≡ false)) ⊎ ((k : A) × Has k ys × (test k ≡ true) × (x ≡ f k))) → (((x ≡ y) ⊎ Has x ys) × (test x ≡ false)) ⊎ ((k : A) × ((k ≡ y) ⊎ Has k ys) × (test k ≡ true) × (x ≡ f k))
    by true p (inl e) more = inr (y, inl refl, p, e)
    by true p (inr k) more = inl (inr k, once.0 p x k)
    by false p (inl e) more = inl (inl e, ap test e ∙ p)
    by false p (inr k) more =
        ⊎_elim (λ (r : Has x ys × (test x ≡ false)). inl (inr r.0, r.1))
        (λ (r : (k : A) × Has k ys × (test k ≡ true) × (x ≡ f k)). inr (r.0, inr r.1, r.2, r.3))
        (more k)

pub has_edited : {A : Type 0} (test : A → Bool) (f : A → A) (x : A) (xs : List A) → Has x xs → Has x (edit_where test f xs) ⊎ ((test x ≡ true) × Has (f x) (edit_where test f xs))
has_edited test f x [] h = absurd h
has_edited test f x (y ∷ ys) h = by (test y) refl h (has_edited test f x ys)
  where
    by : (t : Bool) → test y ≡ t → (x ≡ y) ⊎ Has x ys → (Has x ys → Has x (edit_where test f ys) ⊎ ((test x ≡ true) × Has (f x) (edit_where test f ys))) → Has x (cond t (f y ∷ ys) (y ∷ edit_where test f ys)) ⊎ ((test x ≡ true) × Has (f x) (cond t (f y ∷ ys) (y ∷ edit_where test f ys)))
    by true p (inl e) more = inr (ap test e ∙ p, inl (ap f e))
    by true p (inr k) more = inl (inr k)
    by false p (inl e) more = inl (inl e)
    by false p (inr k) more =
        ⊎_elim (λ (r : Has x (edit_where test f ys)). inl (inr r))
        (λ (r : (test x ≡ true) × Has (f x) (edit_where test f ys)). inr (r.0, inr r.1))
        (more k)

-- where none is found, none passes
pub none_placed : {A : Type 0} (test : A → Bool) (xs : List A) (x : A) → place_where test xs ≡ None → Has x xs → test x ≡ false
none_placed test xs x e h = by (test x) refl
  where
    by : (t : Bool) → test x ≡ t → test x ≡ false
    by true p = absurd (find_none test xs x (ap is_none (missing_at_place test xs e)) h p)
    by false p = p
