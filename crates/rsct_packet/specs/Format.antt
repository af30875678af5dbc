-- A format: what is read is spelled so and fits, and what is spelled so and fits is read again.
use Rattle.std.specs.Prelude.{◌≡◌, ℕ, ◌<◌, List, [], ◌∷◌, ◌++◌, length, get_or, flat_map, Option, Some, None, option_copied}
use Rattle.std.specs.Option.{option_map}
use Rattle.std.specs.Borrow.{Bor}
use Rattle.std.specs.Int.{Width, w8, to_be_bytes}
use Rattle.rsct_packet.specs.Reading.{Gives}

-- each is a byte
abbrev pub IsBytes : List ℕ → Type 0
IsBytes bytes = (i : ℕ) → get_or bytes i 0 < 256

-- bytes are this text and what is left
pub record Takes (bytes text rest : List ℕ) : Type 0 where
  pub parts : bytes ≡ text ++ rest
  pub rest_fits : IsBytes rest

pub record IsFormat {A : Type 0} (read : List ℕ → Option (A × List ℕ)) (text : A → List ℕ) (fits : A → Type 0) : Type 0 where
  pub found : (bytes : List ℕ) (x : A × List ℕ) → IsBytes bytes → read bytes ≡ Some x → Takes bytes (text x.0) x.1 × fits x.0
  pub again : (x : A) (rest : List ℕ) → fits x → read (text x ++ rest) ≡ Some (x, rest)

-- a family of readers, each of which reads the values that have its key
pub record IsKeyed {K A : Type 0} (key : A → K) (read : K → List ℕ → Option (A × List ℕ)) (text : A → List ℕ) (fits : A → Type 0) : Type 0 where
  pub found : (k : K) (bytes : List ℕ) (x : A × List ℕ) → IsBytes bytes → read k bytes ≡ Some x → Takes bytes (text x.0) x.1 × fits x.0 × (key x.0 ≡ k)
  pub again : (x : A) (rest : List ℕ) → fits x → read (key x) (text x ++ rest) ≡ Some (x, rest)

-- one reader of such a family
pub record IsVariant {A : Type 0} (key : A → ℕ) (text : A → List ℕ) (fits : A → Type 0) (k : ℕ) (read : List ℕ → Option (A × List ℕ)) : Type 0 where
  pub found : (bytes : List ℕ) (x : A × List ℕ) → IsBytes bytes → read bytes ≡ Some x → Takes bytes (text x.0) x.1 × fits x.0 × (key x.0 ≡ k)

-- each element fits
abbrev pub EachFits : {A : Type 0} → (A → Type 0) → List A → Type 0
EachFits fits [] = Unit {0}
EachFits fits (x ∷ xs) = fits x × EachFits fits xs

-- so many that fit
abbrev pub AreMany : {A : Type 0} → ℕ → (A → Type 0) → List A → Type 0
AreMany n fits xs = EachFits fits xs × (length xs ≡ n)

-- as many as a byte can count, each of which fits
abbrev pub AreFew : {A : Type 0} → (A → Type 0) → List A → Type 0
AreFew fits xs = (length xs < 256) × EachFits fits xs

-- so many behind their count
abbrev pub counted_text : {A : Type 0} → Width → (A → List ℕ) → List A → List ℕ
counted_text w text xs = to_be_bytes w (length xs) ++ flat_map text xs

-- 0, or 1 and the value
abbrev pub option_key : {A : Type 0} → Option A → ℕ
option_key None = 0
option_key (Some x) = 1

abbrev pub option_text : {A : Type 0} → (A → List ℕ) → Option A → List ℕ
option_text text None = []
option_text text (Some x) = text x

abbrev pub optional_text : {A : Type 0} → (A → List ℕ) → Option A → List ℕ
optional_text text o = to_be_bytes w8 (option_key o) ++ option_text text o

abbrev pub OptionFits : {A : Type 0} → (A → Type 0) → Option A → Type 0
OptionFits fits None = Unit {0}
OptionFits fits (Some x) = fits x

-- What a public reader says of its answer: it is spelled at the front, and whatever is spelled there is its answer.
abbrev pub IsFoundAt : {A : Type 0} → (A → List ℕ) → (A → Type 0) → Option (A × Bor (List ℕ)) → List ℕ → Type 0
IsFoundAt text fits None bytes = Unit {0}
IsFoundAt text fits (Some x) bytes = fits x.0 × (bytes ≡ text x.0 ++ x.1.now)

pub record IsOnlyAt {A : Type 0} (text : A → List ℕ) (fits : A → Type 0) (result : Option (A × Bor (List ℕ))) (bytes : List ℕ) : Type 0 where
  pub only : (x : A) (rest : List ℕ) → fits x → bytes ≡ text x ++ rest → Gives result (Some (x, rest))

-- an answer that hands out a part of the bytes, or none
abbrev pub part_of : Option (Bor (List ℕ) × Bor (List ℕ)) → Option (List ℕ × Bor (List ℕ))
part_of result = option_map (λ x. (x.0.now, x.1)) result

abbrev pub optional_part_of : Option (Option (Bor (List ℕ)) × Bor (List ℕ)) → Option (Option (List ℕ) × Bor (List ℕ))
optional_part_of result = option_map (λ x. (option_copied x.0, x.1)) result
