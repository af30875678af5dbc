-- A word that has not four parts is no address.
use Rattle.std.proofs.Common.{◌≡◌, ℕ, List, [], ◌∷◌, None, refl}
use Rattle.value_words.specs.Words.{◌>>=◌, when_true}
use Rattle.value_words.specs.Counted.{first_of, one_of, four_of}
use Rattle.world_model.specs.Words.{address_of}

pub not_address : (ps : List (List ℕ)) → four_of ps ≡ None → address_of ps ≡ None
unfolding first_of one_of four_of ◌>>=◌ when_true address_of
not_address [] e = refl
not_address (a ∷ []) e = refl
not_address (a ∷ b ∷ []) e = refl
not_address (a ∷ b ∷ c ∷ []) e = refl
not_address (a ∷ b ∷ c ∷ d ∷ []) e = absurd cc
not_address (a ∷ b ∷ c ∷ d ∷ p ∷ ps) e = refl
