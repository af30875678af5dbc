-- Words of which each one is read.
use Rattle.std.proofs.Common.{◌≡◌, ℕ, ◌++◌, List, [], ◌∷◌, Option, Some, None, refl, sym, ◌∙◌, ap, append_assoc, append-nil}
use Rattle.std.specs.Option.{option_map}
use Rattle.value_words.specs.Words.{◌>>=◌, each_read}

-- these, and those that are read of the words that are left
unfoldable pub each_after : {X : Type 0} → (List ℕ → Option X) → List X → List (List ℕ) → Option (List X)
each_after f xs ws = option_map (λ ys. xs ++ ys) (each_read f ws)

more_head : {X : Type 0} (xs : List X) (x : X) (r : Option (List X))
    → option_map (λ ys. xs ++ ys) (r >>= λ ys. Some (x ∷ ys)) ≡ option_map (λ ys. (xs ++ x ∷ []) ++ ys) r
unfolding ◌>>=◌
more_head xs x None = refl
more_head xs x (Some ys) = ap Some (sym (append_assoc xs (x ∷ []) ys))

each_first : {X : Type 0} (f : List ℕ → Option X) (xs : List X) (w : List ℕ) (ws : List (List ℕ)) (p : Option X) → f w ≡ p
    → each_after f xs (w ∷ ws) ≡ option_map (λ ys. xs ++ ys) (p >>= λ x. each_read f ws >>= λ ys. Some (x ∷ ys))
unfolding each_after each_read
each_first f xs w ws p e = ap (λ q. option_map (λ ys. xs ++ ys) (q >>= λ x. each_read f ws >>= λ ys. Some (x ∷ ys))) e

each_cons : {X : Type 0} (f : List ℕ → Option X) (xs : List X) (x : X) (w : List ℕ) (ws : List (List ℕ)) → f w ≡ Some x
    → each_after f xs (w ∷ ws) ≡ each_after f (xs ++ x ∷ []) ws
unfolding each_after ◌>>=◌
each_cons f xs x w ws e = each_first f xs w ws (Some x) e ∙ more_head xs x (each_read f ws)

each_none : {X : Type 0} (f : List ℕ → Option X) (xs : List X) (w : List ℕ) (ws : List (List ℕ)) → f w ≡ None → each_after f xs (w ∷ ws) ≡ None
unfolding ◌>>=◌
each_none f xs w ws e = each_first f xs w ws None e

-- a word that is read
pub each_more : {X : Type 0} (f : List ℕ → Option X) (xs : List X) (x : X) (w : List ℕ) (vs ws : List (List ℕ)) (all : Option (List X)) → vs ≡ w ∷ ws → f w ≡ Some x
    → each_after f xs vs ≡ all → each_after f (xs ++ x ∷ []) ws ≡ all
each_more f xs x w vs ws all e h k = sym (ap (λ us. each_after f xs us) e ∙ each_cons f xs x w ws h) ∙ k

-- a word that is not
pub each_fails : {X : Type 0} (f : List ℕ → Option X) (xs : List X) (w : List ℕ) (vs ws : List (List ℕ)) (all : Option (List X)) → vs ≡ w ∷ ws → f w ≡ None
    → each_after f xs vs ≡ all → all ≡ None
each_fails f xs w vs ws all e h k = sym k ∙ (ap (λ us. each_after f xs us) e ∙ each_none f xs w ws h)

-- no word more
pub each_done : {X : Type 0} (f : List ℕ → Option X) (xs : List X) (vs : List (List ℕ)) (all : Option (List X)) → vs ≡ [] → each_after f xs vs ≡ all → all ≡ Some xs
unfolding each_after each_read
each_done f xs vs all e k = sym k ∙ (ap (λ us. each_after f xs us) e ∙ ap Some (append-nil xs))

whole_head : {X : Type 0} (r : Option (List X)) → option_map (λ ys. [] ++ ys) r ≡ r
whole_head None = refl
whole_head (Some ys) = refl

pub each_start : {X : Type 0} (f : List ℕ → Option X) (ws : List (List ℕ)) → each_after f [] ws ≡ each_read f ws
unfolding each_after
each_start f ws = whole_head (each_read f ws)

-- what a loop over items takes
pub ruleset each_step = (each_start, each_more, each_fails, each_done)
