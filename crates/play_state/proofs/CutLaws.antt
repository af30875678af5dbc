-- Cuts as they are kept, and those of the definitions.
use Rattle.std.proofs.Common.{◌≡◌, Bool, true, false, cond, ◌||◌, List, [], ◌∷◌, map, refl, ap}
use Rattle.std.specs.Prelude.{filter}
use Rattle.std.specs.List.{list_any}
use Rattle.world_model.specs.Play.{Cut}
use Rattle.play_state.specs.declared.cuts.Cut as declared
use Rattle.play_state.specs.Cuts.{cut_in}

pub any_in : (f : Cut → Bool) (cs : List declared.Cut) → list_any (λ c. f (cut_in c)) cs ≡ list_any f (map cut_in cs)
any_in f [] = refl
any_in f (c ∷ cs) = ap (λ t. f (cut_in c) || t) (any_in f cs)

kept_head : {X Y : Type 0} (g : X → Y) (t : Bool) (x : X) (xs : List X) (ys : List Y) → map g xs ≡ ys → map g (cond t (x ∷ xs) xs) ≡ cond t (g x ∷ ys) ys
kept_head g true x xs ys e = ap (λ zs. g x ∷ zs) e
kept_head g false x xs ys e = e

pub kept_in : {X Y : Type 0} (g : X → Y) (f : Y → Bool) (xs : List X) → map g (filter (λ x. f (g x)) xs) ≡ filter f (map g xs)
kept_in g f [] = refl
kept_in g f (x ∷ xs) = kept_head g (f (g x)) x (filter (λ y. f (g y)) xs) (filter f (map g xs)) (kept_in g f xs)
