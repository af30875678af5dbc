-- Lists that grow: fronts of them, pieces of them, and what is kept by key.
use Rattle.std.proofs.Common.{◌≡◌, ℕ, zero, suc, ◌+◌, ◌-◌, ◌<◌, ◌≤◌, true, false, List, [], ◌∷◌, ◌++◌, length, take, drop, Some, refl, sym, ap, subst, ◌∙◌, append_assoc, append-nil, arith}
use Rattle.std.specs.Prelude.{◌==◌, slice_get, if◌then◌else◌}
use Rattle.std.proofs.Common.{◌⊎◌, inl, inr}
use Rattle.std.proofs.lemmas.Bool.{eq-eqb, ne_eqb, cases_lt, cases_eq}
use Rattle.std.proofs.lemmas.List.{length_push, length-append, length-take-le, take-append-drop, drop_all}
use Rattle.rsct_packet.specs.Format.{EachFits}
use Rattle.remote_session.specs.Laws.{IsPrefixOf}
use Rattle.remote_session.specs.World.{added, added_in}

-- fronts

pub prefix_none : {A : Type 0} (ys : List A) → IsPrefixOf [] ys
prefix_none ys = (ys, refl)

pub prefix_same : {A : Type 0} (xs : List A) → IsPrefixOf xs xs
prefix_same xs = ([], append-nil xs)

pub prefix_then : {A : Type 0} (xs ys zs : List A) → IsPrefixOf xs ys → IsPrefixOf ys zs → IsPrefixOf xs zs
prefix_then xs ys zs p q = (p.0 ++ q.0, sym (append_assoc xs p.0 q.0) ∙ (ap (λ (t : List _). t ++ q.0) p.1 ∙ q.1))

get_in_front : {A : Type 0} (xs rest : List A) (i : ℕ) (x : A) → slice_get xs i ≡ Some x → slice_get (xs ++ rest) i ≡ Some x
get_in_front [] rest i x e = absurd cc
get_in_front (y ∷ ys) rest zero x e = e
get_in_front (y ∷ ys) rest (suc i) x e = get_in_front ys rest i x e

-- what stands in a list stands in one that begins with it
pub prefix_get : {A : Type 0} (xs ys : List A) (i : ℕ) (x : A) → IsPrefixOf xs ys → slice_get xs i ≡ Some x → slice_get ys i ≡ Some x
prefix_get xs ys i x p e = ap (λ (t : List _). slice_get t i) (sym p.1) ∙ get_in_front xs p.0 i x e

get_behind : {A : Type 0} (xs rest : List A) → slice_get (xs ++ rest) (length xs) ≡ slice_get rest 0
get_behind [] rest = refl
get_behind (x ∷ xs) rest = get_behind xs rest

first_of : {A : Type 0} (rest : List A) (x : A) → slice_get rest 0 ≡ Some x → (more : List A) × (rest ≡ x ∷ more)
first_of [] x e = absurd cc
first_of (y ∷ ys) x e = (ys, let s : y ≡ x = cc in ap (λ (z : _). z ∷ ys) s)

-- one more that follows
pub prefix_next : {A : Type 0} (xs ys : List A) (x : A) → IsPrefixOf xs ys → slice_get ys (length xs) ≡ Some x → IsPrefixOf (xs ++ x ∷ []) ys
prefix_next {A} xs ys x p e =
    let f = first_of p.0 x (sym (get_behind xs p.0) ∙ (ap (λ (t : List A). slice_get t (length xs)) p.1 ∙ e)) in
    (f.0, append_assoc xs (x ∷ []) f.0 ∙ (ap (λ (t : List A). xs ++ t) (sym f.1) ∙ p.1))

-- the last one
pub get_last : {A : Type 0} (xs : List A) (x : A) → slice_get (xs ++ x ∷ []) (length xs) ≡ Some x
get_last xs x = get_behind xs (x ∷ [])

-- what fits

pub each_append : {A : Type 0} (fits : A → Type 0) (xs ys : List A) → EachFits fits xs → EachFits fits ys → EachFits fits (xs ++ ys)
each_append fits [] ys h g = g
each_append fits (x ∷ xs) ys h g = (h.0, each_append fits xs ys h.1 g)

pub each_drop : {A : Type 0} (fits : A → Type 0) (n : ℕ) (xs : List A) → EachFits fits xs → EachFits fits (drop n xs)
each_drop fits zero xs h = h
each_drop fits (suc n) [] h = tt
each_drop fits (suc n) (x ∷ xs) h = each_drop fits n xs h.1

pub each_take : {A : Type 0} (fits : A → Type 0) (n : ℕ) (xs : List A) → EachFits fits xs → EachFits fits (take n xs)
each_take fits zero xs h = tt
each_take fits (suc n) [] h = tt
each_take fits (suc n) (x ∷ xs) h = (h.0, each_take fits n xs h.1)

-- pieces

-- these stand in the list, the first of them as the one of this number, from 1
abbrev pub IsPiece : {A : Type 0} → ℕ → List A → List A → Type 0
IsPiece number [] ys = Unit {0}
IsPiece number (x ∷ xs) ys = (1 ≤ number) × (slice_get ys (number - 1) ≡ Some x) × IsPiece (number + 1) xs ys

pub piece_kept : {A : Type 0} (number : ℕ) (xs ys zs : List A) → IsPrefixOf ys zs → IsPiece number xs ys → IsPiece number xs zs
piece_kept number [] ys zs p h = tt
piece_kept number (x ∷ xs) ys zs p h = (h.0, prefix_get ys zs (number - 1) x p h.1, piece_kept (number + 1) xs ys zs p h.2)

-- the list behind a front
piece_behind : {A : Type 0} (front xs ys : List A) → front ++ xs ≡ ys → IsPiece (length front + 1) xs ys
piece_behind front [] ys e = tt
piece_behind {A} front (x ∷ xs) ys e =
    let place : length front + 1 - 1 ≡ length front = omega arith in
    let next : length (front ++ x ∷ []) + 1 ≡ length front + 1 + 1 = omega (arith, length_push front x) in
    (omega arith, rw place (ap (λ (t : List A). slice_get t (length front)) (sym e) ∙ get_behind front (x ∷ xs)), subst (λ n. IsPiece n xs ys) next (piece_behind (front ++ x ∷ []) xs ys (append_assoc front (x ∷ []) xs ∙ e)))

piece_take : {A : Type 0} (number n : ℕ) (xs ys : List A) → IsPiece number xs ys → IsPiece number (take n xs) ys
piece_take number zero xs ys h = tt
piece_take number (suc n) [] ys h = tt
piece_take number (suc n) (x ∷ xs) ys h = (h.0, h.1, piece_take (number + 1) n xs ys h.2)

-- the first few after so many
pub piece_of : {A : Type 0} (heard few : ℕ) (xs : List A) → IsPiece (heard + 1) (take few (drop heard xs)) xs
piece_of heard few xs = by (cases_lt (length xs) heard)
  where
    by : (length xs < heard) ⊎ (heard ≤ length xs) → IsPiece (heard + 1) (take few (drop heard xs)) xs
    by (inl lt) = rw (drop_all heard xs (omega arith)) (piece_take (heard + 1) few [] xs tt)
    by (inr le) =
        let len : length (take heard xs) ≡ heard = length-take-le heard xs le in
        piece_take (heard + 1) few (drop heard xs) xs (subst (λ n. IsPiece (n + 1) (drop heard xs) xs) len (piece_behind (take heard xs) (drop heard xs) xs (take-append-drop heard xs)))

-- lists by key, and by life and key

module _ {A : Type 0} (x : A) where
  pub added_same : (key k : ℕ) (lists : ℕ → List A) → k ≡ key → added key x lists k ≡ lists k ++ x ∷ []
  unfolding added
  added_same key k lists e = rw (eq-eqb k key e) refl

  pub added_other : (key k : ℕ) (lists : ℕ → List A) → (k ≡ key → ⊥) → added key x lists k ≡ lists k
  unfolding added
  added_other key k lists ne = rw (ne_eqb k key ne) refl

  pub added_grows : (key : ℕ) (lists : ℕ → List A) (k : ℕ) → IsPrefixOf (lists k) (added key x lists k)
  added_grows key lists k =
      elim (cases_eq k key) [
        | inl e ↦ (x ∷ [], sym (added_same key k lists e))
        | inr ne ↦ ([], append-nil (lists k) ∙ sym (added_other key k lists ne))
      ]

  pub added_in_same : (life key k : ℕ) (lists : ℕ → ℕ → List A) → k ≡ key → added_in life key x lists life k ≡ lists life k ++ x ∷ []
  unfolding added_in
  added_in_same life key k lists e = rw (eq-eqb life life refl) (added_same key k (lists life) e)

  pub added_in_other_key : (life key k : ℕ) (lists : ℕ → ℕ → List A) → (k ≡ key → ⊥) → added_in life key x lists life k ≡ lists life k
  unfolding added_in
  added_in_other_key life key k lists ne = rw (eq-eqb life life refl) (added_other key k (lists life) ne)

  pub added_in_other : (life key l k : ℕ) (lists : ℕ → ℕ → List A) → (l ≡ life → ⊥) → added_in life key x lists l k ≡ lists l k
  unfolding added_in
  added_in_other life key l k lists ne = rw (ne_eqb l life ne) refl

  pub added_in_grows : (life key : ℕ) (lists : ℕ → ℕ → List A) (l k : ℕ) → IsPrefixOf (lists l k) (added_in life key x lists l k)
  unfolding added_in
  added_in_grows life key lists l k =
      elim (l == life) as (λ b. IsPrefixOf (lists l k) (if b then added key x (lists l) k else lists l k)) [ true ↦ added_grows key (lists l) k | false ↦ prefix_same (lists l k) ]

-- what holds of all lists once one has one more
pub added_in_all : {A : Type 0} (x : A) (life key : ℕ) (lists : ℕ → ℕ → List A) (P : ℕ → ℕ → List A → Type 0) → P life key (lists life key ++ x ∷ []) → ((l k : ℕ) → (l ≡ life → k ≡ key → ⊥) → P l k (lists l k))
    → (l k : ℕ) → P l k (added_in life key x lists l k)
added_in_all x life key lists P own others l k = by (cases_eq l life) (cases_eq k key)
  where
    by : (l ≡ life) ⊎ (l ≡ life → ⊥) → (k ≡ key) ⊎ (k ≡ key → ⊥) → P l k (added_in life key x lists l k)
    by (inl e) (inl g) =
        subst (λ (j : ℕ). P j k (added_in life key x lists j k)) (sym e)
        (subst (λ (j : ℕ). P life j (added_in life key x lists life j)) (sym g) (subst (P life key) (sym (added_in_same x life key key lists refl)) own))
    by (inl e) (inr g) =
        subst (λ (j : ℕ). P j k (added_in life key x lists j k)) (sym e)
        (subst (P life k) (sym (added_in_other_key x life key k lists g)) (others life k (λ _ h. g h)))
    by (inr e) g = subst (P l k) (sym (added_in_other x life key l k lists e)) (others l k (λ h _. e h))

pub prefix_length : {A : Type 0} (xs ys : List A) → IsPrefixOf xs ys → length xs ≤ length ys
prefix_length xs ys p = let len : length xs + length p.0 ≡ length ys = sym (length-append xs p.0) ∙ ap length p.1 in omega (arith, len)
