-- Words that are still to be read of a line.
use Rattle.std.specs.Prelude.{ℕ, Bool, true, false, List, []}
use Rattle.value_words.specs.Words.{split_on}

-- what stands between the spaces of the bytes that are left, unless the line is at its end
unfoldable pub pieces_left : List ℕ → Bool → List (List ℕ)
pieces_left b true = []
pieces_left b false = split_on 32 b
