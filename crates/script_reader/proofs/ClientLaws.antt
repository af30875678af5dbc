-- The newest first, or the newest last: a test of any is the same.
use Rattle.std.proofs.Common.{◌≡◌, ◌||◌, Bool, true, false, List, [], ◌∷◌, refl, sym, ◌∙◌}
use Rattle.std.specs.List.{list_any, fold}
use Rattle.script_reader.specs.Clients.{newest_first}

or_swap : (a b c : Bool) → (a || (b || c)) ≡ ((b || a) || c)
or_swap true true c = refl
or_swap true false c = refl
or_swap false true c = refl
or_swap false false c = refl

any_onto : {X Y : Type 0} (p : Y → Bool) (f : X → Y) (ys : List Y) (xs : List X)
    → list_any p (fold (λ zs x. f x ∷ zs) ys xs) ≡ (list_any p ys || list_any (λ x. p (f x)) xs)
any_onto p f ys [] = sym (or_none (list_any p ys))
  where
    or_none : (a : Bool) → (a || false) ≡ a
    or_none true = refl
    or_none false = refl
any_onto p f ys (x ∷ xs) = any_onto p f (f x ∷ ys) xs ∙ sym (or_swap (list_any p ys) (p (f x)) (list_any (λ y. p (f y)) xs))

pub any_newest : {X Y : Type 0} (p : Y → Bool) (f : X → Y) (xs : List X) → list_any p (newest_first f xs) ≡ list_any (λ x. p (f x)) xs
any_newest p f xs = any_onto p f [] xs
