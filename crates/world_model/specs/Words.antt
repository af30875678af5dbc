-- Addresses, modes and the words of a status.
use Rattle.std.specs.Prelude.{ℕ, not, ◌+◌, ◌-◌, ◌*◌, List, [], ◌∷◌, Option, None, codes}
use Rattle.rsct_packet.specs.Ids.{last_u32}
use Rattle.node_state.specs.declared.config.Mode.{Mode}
use Rattle.node_state.specs.declared.config.Mode.TheVariants as mode
use Rattle.packet_bodies.specs.declared.body.What.{What}
use Rattle.packet_bodies.specs.declared.body.What.TheVariants as what
use Rattle.value_words.specs.Words.{◌>>=◌, split_on, in_range, number_word, chosen, value_words_open}
use Rattle.entry_words.specs.Words.{attr_words_open}

unfoldable pub address_of : List (List ℕ) → Option ℕ
address_of (a ∷ b ∷ c ∷ d ∷ []) = do
  x ← number_word 0 255 a
  y ← number_word 0 255 b
  z ← number_word 0 255 c
  u ← number_word 0 255 d
  in_range 1 last_u32 (((x * 256 + y) * 256 + z) * 256 + u)
address_of _ = None

-- not 0.0.0.0
unfoldable pub address_word : List ℕ → Option ℕ
address_word w = address_of (split_on 46 w)

unfoldable pub mode_word : List ℕ → Option Mode
mode_word w = chosen (record { word = codes "fixed"; means = mode.Fixed } ∷ record { word = codes "asked"; means = mode.Asked } ∷ record { word = codes "rings"; means = mode.Rings } ∷ []) w

unfoldable pub what_word : List ℕ → Option What
what_word w =
    chosen (record { word = codes "hats"; means = what.Hats } ∷ record { word = codes "hagsns"; means = what.Hagsns } ∷ record { word = codes "hagsgr"; means = what.Hagsgr } ∷ record { word = codes "hagsvote"; means = what.Hagsvote } ∷ []) w

-- opens each word of this file, for a computation
unfoldable pub words_opens : Unit {0}
unfolding value_words_open attr_words_open address_of address_word mode_word what_word
words_opens = tt
