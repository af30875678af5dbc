-- Settings in their normal form, and the digest of that.
use Rattle.std.specs.Prelude.{ℕ, Bool, false, List, [], ◌∷◌, ◌++◌, take, codes, flat_map, if◌then◌else◌}
use Rattle.std.specs.Str.{bytes_eq}
use Rattle.std.specs.Int.{w64, from_be_bytes}
use Rattle.sha2.specs.Sha256.{sha256}
use Rattle.sha2.specs.declared.Sha256.{Sha256}
use Rattle.sha2.specs.Hashers.{Holds256}
use Rattle.value_words.specs.Words.{split_on, words_in}
use Rattle.world_model.specs.Reading.{is_comment}

-- the words of a line, of which a comment has none
unfoldable pub words_of : List ℕ → List (List ℕ)
words_of line = if is_comment line then [] else words_in line

abbrev pub begins : List (List ℕ) → Bool
begins [] = false
begins (word ∷ words) = bytes_eq word (codes "begin")

-- its first word is `begin`, which stands alone in all settings that are read
unfoldable pub is_begin : List ℕ → Bool
is_begin line = begins (words_of line)

abbrev pub behind_blank : List ℕ → List ℕ
behind_blank word = 32 ∷ word

-- words with a blank between two of them, and a line feed; nothing where there are none
abbrev pub spaced : List (List ℕ) → List ℕ
spaced [] = []
spaced (word ∷ words) = word ++ (flat_map behind_blank words ++ 10 ∷ [])

unfoldable pub normal_line : List ℕ → List ℕ
normal_line line = spaced (words_of line)

-- the lines before the first `begin`
unfoldable pub before_begin : List (List ℕ) → List ℕ
before_begin [] = []
before_begin (line ∷ lines) = if is_begin line then [] else normal_line line ++ before_begin lines

unfoldable pub normal_settings : List ℕ → List ℕ
normal_settings settings = before_begin (split_on 10 settings)

-- the number whose bytes are the first ones of its SHA-256
unfoldable pub settings_digest : List ℕ → ℕ
settings_digest settings = from_be_bytes w64 (take 8 (sha256 (normal_settings settings)))

-- what a hasher holds grew by a text
abbrev pub Adds : Sha256 → Sha256 → List ℕ → Type 0
Adds old new text = (m : List ℕ) → Holds256 old m → Holds256 new (m ++ text)
