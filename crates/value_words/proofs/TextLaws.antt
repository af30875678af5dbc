-- The text of one item more behind those so far.
use Rattle.std.proofs.Common.{◌≡◌, ℕ, ◌+◌, ◌<◌, List, [], ◌∷◌, ◌++◌, length, take, get_or, sym, ap, ◌∙◌, append_assoc, add-one}
use Rattle.std.specs.Prelude.{flat_map}
use Rattle.std.proofs.Math.Seq.{take-suc}
use Rattle.std.proofs.lemmas.List.{flat_map_more}

-- put at once
pub item_on : {X : Type 0} (f : X → List ℕ) (base : List ℕ) (xs : List X) (i : ℕ) (d : X) (out new : List ℕ) → i < length xs → out ≡ base ++ flat_map f (take i xs)
    → new ≡ out ++ f (get_or xs i d) → new ≡ base ++ flat_map f (take (i + 1) xs)
item_on {X = X} f base xs i d out new h so_far added =
    let more : take (i + 1) xs ≡ take i xs ++ get_or xs i d ∷ [] = rw add-one (take-suc xs i d h) in
    added
    ∙ (ap (λ (l : List ℕ). l ++ f (get_or xs i d)) so_far
    ∙ (flat_map_more f base (take i xs) (get_or xs i d) ∙ ap (λ (ys : List X). base ++ flat_map f ys) (sym more)))

-- put in two pieces
pub pieces_on : {X : Type 0} (f : X → List ℕ) (base : List ℕ) (xs : List X) (i : ℕ) (d : X) (out half new a b : List ℕ) → i < length xs → out ≡ base ++ flat_map f (take i xs)
    → half ≡ out ++ a → new ≡ half ++ b → a ++ b ≡ f (get_or xs i d) → new ≡ base ++ flat_map f (take (i + 1) xs)
pieces_on f base xs i d out half new a b h so_far first second both =
    item_on f base xs i d out new h so_far (second ∙ (ap (λ (l : List ℕ). l ++ b) first ∙ (append_assoc out a b ∙ ap (λ (l : List ℕ). out ++ l) both)))
