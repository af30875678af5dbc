-- What the front of bytes spells: a value and what is left. A reader of a record is made of these.
use Rattle.std.specs.Prelude.{◌≡◌, ℕ, zero, suc, Bool, ◌==◌, List, [], ◌∷◌, length, take, drop, Option, Some, None, nat_lt, if◌then◌else◌, option_copied}
use Rattle.std.specs.Int.{Width, w8, byte_len, from_be_bytes}
use Rattle.std.specs.Borrow.{Bor}
use Rattle.std.specs.Option.{option_map}

infixl 10 ◌>>=◌
abbrev pub ◌>>=◌ : {A B : Type 0} → Option A → (A → Option B) → Option B
(Some x) >>= f = f x
None >>= f = None

-- a number of so many bytes, the highest byte first
abbrev pub number_at : Width → List ℕ → Option (ℕ × List ℕ)
number_at w bytes = if nat_lt (length bytes) (byte_len w) then None else Some (from_be_bytes w (take (byte_len w) bytes), drop (byte_len w) bytes)

-- so many bytes
abbrev pub part_at : ℕ → List ℕ → Option (List ℕ × List ℕ)
part_at n bytes = if nat_lt (length bytes) n then None else Some (take n bytes, drop n bytes)

-- one after the other
abbrev pub both_at : {A B : Type 0} → (List ℕ → Option (A × List ℕ)) → (List ℕ → Option (B × List ℕ)) → List ℕ → Option ((A × B) × List ℕ)
both_at f g bytes = do
  a ← f bytes
  b ← g a.1
  Some ((a.0, b.0), b.1)

-- the first says what the second has to be
abbrev pub then_at : {A B : Type 0} → (List ℕ → Option (A × List ℕ)) → (A → List ℕ → Option (B × List ℕ)) → List ℕ → Option ((A × B) × List ℕ)
then_at f g bytes = do
  a ← f bytes
  b ← g a.0 a.1
  Some ((a.0, b.0), b.1)

-- another type, made of what is read
abbrev pub made_at : {A B : Type 0} → (A → B) → (List ℕ → Option (A × List ℕ)) → List ℕ → Option (B × List ℕ)
made_at make f bytes = do
  a ← f bytes
  Some (make a.0, a.1)

-- another type, where what is read stands for one of its values
abbrev pub decoded_at : {A B : Type 0} → (A → Option B) → (List ℕ → Option (A × List ℕ)) → List ℕ → Option (B × List ℕ)
decoded_at decode f bytes = do
  a ← f bytes
  b ← decode a.0
  Some (b, a.1)

-- only what passes a test
abbrev pub guarded_at : {A : Type 0} → (A → Bool) → (List ℕ → Option (A × List ℕ)) → List ℕ → Option (A × List ℕ)
guarded_at test f bytes = do
  a ← f bytes
  if test a.0 then Some a else None

-- the first says how the second is read
abbrev pub keyed_at : {K A : Type 0} → (List ℕ → Option (K × List ℕ)) → (K → List ℕ → Option (A × List ℕ)) → List ℕ → Option (A × List ℕ)
keyed_at key body bytes = do
  k ← key bytes
  body k.0 k.1

-- so many of a kind
unfoldable pub many_at : {A : Type 0} → (List ℕ → Option (A × List ℕ)) → ℕ → List ℕ → Option (List A × List ℕ)
many_at f zero bytes = Some ([], bytes)
many_at f (suc n) bytes = do
  x ← f bytes
  xs ← many_at f n x.1
  Some (x.0 ∷ xs.0, xs.1)

-- a list behind its count
abbrev pub counted_at : {A : Type 0} → Width → (List ℕ → Option (A × List ℕ)) → List ℕ → Option (List A × List ℕ)
counted_at w f bytes = keyed_at (number_at w) (many_at f) bytes

abbrev pub option_at : {A : Type 0} → (List ℕ → Option (A × List ℕ)) → ℕ → List ℕ → Option (Option A × List ℕ)
option_at f k bytes = if k == 0 then Some (None, bytes) else if k == 1 then made_at Some f bytes else None

-- 0, or 1 and a value
abbrev pub optional_at : {A : Type 0} → (List ℕ → Option (A × List ℕ)) → List ℕ → Option (Option A × List ℕ)
optional_at f bytes = keyed_at (number_at w8) (option_at f) bytes

-- A value and the bytes after it, which is what reading gives.
abbrev pub Gives : {A : Type 0} → Option (A × Bor (List ℕ)) → Option (A × List ℕ) → Type 0
Gives result read = option_map (λ x. (x.0, x.1.now)) result ≡ read

-- The same of bytes that are handed out as a part of what is read.
abbrev pub GivesPart : Option (Bor (List ℕ) × Bor (List ℕ)) → Option (List ℕ × List ℕ) → Type 0
GivesPart result read = option_map (λ x. (x.0.now, x.1.now)) result ≡ read

-- The same of bytes that may be there.
abbrev pub GivesOptionalPart : Option (Option (Bor (List ℕ)) × Bor (List ℕ)) → Option (Option (List ℕ) × List ℕ) → Type 0
GivesOptionalPart result read = option_map (λ x. (option_copied x.0, x.1.now)) result ≡ read
