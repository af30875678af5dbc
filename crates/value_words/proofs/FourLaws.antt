-- A word that has not four parts.
use Rattle.std.proofs.Common.{◌≡◌, ℕ, true, false, List, [], ◌∷◌, Option, Some, None, IfSome, IfNone, is_some, refl}
use Rattle.std.specs.Borrow.{Bor}
use Rattle.rsct_packet.specs.Lists.{is_empty}
use Rattle.value_words.specs.Words.{◌>>=◌, when_true, split_on, provider_of}
use Rattle.value_words.specs.Counted.{first_of, one_of, four_of}

pub one_part : (ps : List (List ℕ)) (a : List ℕ) → ps ≡ a ∷ [] → four_of ps ≡ None
unfolding four_of one_of first_of ◌>>=◌ when_true
one_part ps a e = rw e refl

pub two_parts : (ps qs : List (List ℕ)) (a b : List ℕ) → ps ≡ a ∷ qs → qs ≡ b ∷ [] → four_of ps ≡ None
unfolding four_of one_of first_of ◌>>=◌ when_true
two_parts ps qs a b e f = rw (e, f) refl

pub three_parts : (ps qs rs : List (List ℕ)) (a b c : List ℕ) → ps ≡ a ∷ qs → qs ≡ b ∷ rs → rs ≡ c ∷ [] → four_of ps ≡ None
unfolding four_of one_of first_of ◌>>=◌ when_true
three_parts ps qs rs a b c e f g = rw (e, f, g) refl

five_parts : (a b c d : List ℕ) (ps : List (List ℕ)) → is_empty ps ≡ false → four_of (a ∷ b ∷ c ∷ d ∷ ps) ≡ None
unfolding four_of one_of first_of ◌>>=◌ when_true
five_parts a b c d [] e = absurd cc
five_parts a b c d (p ∷ ps) e = refl

pub more_parts : (ps qs rs ss ts : List (List ℕ)) (a b c d : List ℕ) → ps ≡ a ∷ qs → qs ≡ b ∷ rs → rs ≡ c ∷ ss → ss ≡ d ∷ ts → is_empty ts ≡ false → four_of ps ≡ None
more_parts ps qs rs ss ts a b c d e f g h k = rw (e, f, g, h) (five_parts a b c d ts k)

pub just_four : (ps qs rs ss : List (List ℕ)) (a b c d : List ℕ) → ps ≡ a ∷ qs → qs ≡ b ∷ rs → rs ≡ c ∷ ss → ss ≡ d ∷ [] → ps ≡ a ∷ b ∷ c ∷ d ∷ []
just_four ps qs rs ss a b c d e f g h = rw (e, f, g, h) refl

pub more_some : (r : Option (Bor (List ℕ) × Bor (List ℕ))) (ps qs rs ss : List (List ℕ)) (a b c : List ℕ) → ps ≡ a ∷ qs → qs ≡ b ∷ rs → rs ≡ c ∷ ss
    → IfSome r (λ x. ss ≡ x.0.now ∷ split_on 46 x.1.now) → IfSome r (λ x. is_empty (split_on 46 x.1.now) ≡ false) → is_some r ≡ true → four_of ps ≡ None
more_some None ps qs rs ss a b c e f g h k t = absurd cc
more_some (Some x) ps qs rs ss a b c e f g h k t = more_parts ps qs rs ss (split_on 46 x.1.now) a b c x.0.now e f g h k

pub none_gives : {X P : Type 0} (r : Option X) → P → IfNone r P
none_gives None h = h
none_gives (Some x) h = tt

pub not_provider : (ps : List (List ℕ)) → four_of ps ≡ None → provider_of ps ≡ None
unfolding first_of one_of four_of ◌>>=◌ when_true provider_of
not_provider [] e = refl
not_provider (a ∷ []) e = refl
not_provider (a ∷ b ∷ []) e = refl
not_provider (a ∷ b ∷ c ∷ []) e = refl
not_provider (a ∷ b ∷ c ∷ d ∷ []) e = absurd cc
not_provider (a ∷ b ∷ c ∷ d ∷ p ∷ ps) e = refl
