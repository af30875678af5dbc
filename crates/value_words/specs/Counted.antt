-- Just so many words.
use Rattle.std.specs.Prelude.{ℕ, List, [], ◌∷◌, Option, Some, None}
use Rattle.rsct_packet.specs.Lists.{is_empty}
use Rattle.value_words.specs.Words.{◌>>=◌, when_true}

unfoldable pub first_of : List (List ℕ) → Option (List ℕ × List (List ℕ))
first_of [] = None
first_of (w ∷ ws) = Some (w, ws)

unfoldable pub one_of : List (List ℕ) → Option (List ℕ)
one_of ws = do
  a ← first_of ws
  when_true (Some a.0) (is_empty a.1)

unfoldable pub two_of : List (List ℕ) → Option (List ℕ × List ℕ)
two_of ws = do
  a ← first_of ws
  b ← one_of a.1
  Some (a.0, b)

unfoldable pub three_of : List (List ℕ) → Option (List ℕ × List ℕ × List ℕ)
three_of ws = do
  a ← first_of ws
  b ← first_of a.1
  c ← one_of b.1
  Some (a.0, b.0, c)

unfoldable pub four_of : List (List ℕ) → Option (List ℕ × List ℕ × List ℕ × List ℕ)
four_of ws = do
  a ← first_of ws
  b ← first_of a.1
  c ← first_of b.1
  d ← one_of c.1
  Some (a.0, b.0, c.0, d)
