-- Texts: `%XX` stands for any byte, and `~` alone for the empty text.
use Rattle.std.specs.Prelude.{ℕ, ◌==◌, ◌++◌, List, [], ◌∷◌, Option, Some, None, length, codes, if◌then◌else◌}
use Rattle.std.specs.List.{fold}
use Rattle.std.specs.Str.{bytes_eq}
use Rattle.value_words.specs.declared.values.TextRead.{TextRead}
use Rattle.value_words.specs.declared.values.Escape.{Escape}
use Rattle.value_words.specs.declared.values.Escape.TheVariants.{Plain, Percent, Digit}
use Rattle.value_words.specs.Words.{hex_pair, value_words_open}

abbrev pub with_byte : Option (List ℕ) → Option ℕ → Option (List ℕ)
with_byte None x = None
with_byte (Some bytes) None = None
with_byte (Some bytes) (Some b) = Some (bytes ++ b ∷ [])

abbrev pub text_byte_at : Option (List ℕ) → Escape → ℕ → TextRead
text_byte_at bytes Plain b = if b == 37 then record { bytes = bytes; escape = Percent } else record { bytes = with_byte bytes (Some b); escape = Plain }
text_byte_at bytes Percent b = record { bytes = bytes; escape = Digit b }
text_byte_at bytes (Digit a) b = record { bytes = with_byte bytes (hex_pair a b); escape = Plain }

unfoldable pub text_byte : TextRead → ℕ → TextRead
text_byte r b = text_byte_at r.bytes r.escape b

abbrev pub text_end_at : Option (List ℕ) → Escape → Option (List ℕ)
text_end_at bytes Plain = bytes
text_end_at bytes Percent = None
text_end_at bytes (Digit a) = None

-- no text ends within a `%XX`
unfoldable pub text_end : TextRead → Option (List ℕ)
text_end r = text_end_at r.bytes r.escape

unfoldable pub text_of : List ℕ → Option (List ℕ)
text_of w = text_end (fold text_byte (record { bytes = Some []; escape = Plain }) w)

unfoldable pub text_word : List ℕ → Option (List ℕ)
text_word w = if length w == 0 then None else if bytes_eq w (codes "~") then Some [] else text_of w

-- opens each word of this file, for a computation
unfoldable pub escapes_open : Unit {0}
unfolding value_words_open text_byte text_end text_of text_word
escapes_open = tt
