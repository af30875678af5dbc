-- An envelope from node 1 to node 3, for worked examples.
use Rattle.std.specs.Prelude.{ℕ, List, [], ◌∷◌}

-- that node 1 took the view 1.1.1, said to node 3
unfoldable pub taken : List ℕ
taken = 0x52 ∷ 0x47 ∷ 1 ∷ 13 ∷ 1 ∷ 1 ∷ 3 ∷ 0 ∷ 0 ∷ 0 ∷ 0 ∷ 1 ∷ 0 ∷ 0 ∷ 0 ∷ 9 ∷ 0 ∷ 0 ∷ 0 ∷ 1 ∷ 1 ∷ 0 ∷ 0 ∷ 0 ∷ 1 ∷ []

unfoldable pub around : ℕ → ℕ → ℕ → List ℕ
around hops origin target = 0x52 ∷ 0x54 ∷ hops ∷ 0 ∷ origin ∷ target ∷ taken

-- a head of that kind whose body, and its length, is a byte short
unfoldable pub taken_short : List ℕ
taken_short = 0x52 ∷ 0x47 ∷ 1 ∷ 13 ∷ 1 ∷ 1 ∷ 3 ∷ 0 ∷ 0 ∷ 0 ∷ 0 ∷ 1 ∷ 0 ∷ 0 ∷ 0 ∷ 8 ∷ 0 ∷ 0 ∷ 0 ∷ 1 ∷ 1 ∷ 0 ∷ 0 ∷ 0 ∷ []

unfoldable pub cut_short : ℕ → ℕ → ℕ → List ℕ
cut_short hops origin target = 0x52 ∷ 0x54 ∷ hops ∷ 0 ∷ origin ∷ target ∷ taken_short

-- opens each word of this file, for a computation
unfoldable pub samples_opens : Unit {0}
unfolding taken around taken_short cut_short
samples_opens = tt
