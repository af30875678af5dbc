-- A list that stands in a datagram, and tests on what it lists.
use Rattle.std.specs.Prelude.{◌≡◌, ℕ, Bool, true, ◌&&◌, nat_lt, List, [], ◌∷◌, Option, Some, None}
use Rattle.rsct_packet.specs.Reading.{many_at}

-- what was read, without the bytes after it
abbrev pub items_in : {A : Type 0} → Option (List A × List ℕ) → List A
items_in None = []
items_in (Some x) = x.0

-- each is above the one before it, the first above this
abbrev pub ascending_from : ℕ → List ℕ → Bool
ascending_from last [] = true
ascending_from last (x ∷ xs) = nat_lt last x && ascending_from x xs

-- nodes, which are at least 1, in ascending order
abbrev pub ascending : List ℕ → Bool
ascending xs = ascending_from 0 xs

-- i of a kind end where rest begins
pub record Skips {A : Type 0} (f : List ℕ → Option (A × List ℕ)) (i : ℕ) (bytes rest : List ℕ) : Type 0 where
  pub items : List A
  pub read : many_at f i bytes ≡ Some (items, rest)
