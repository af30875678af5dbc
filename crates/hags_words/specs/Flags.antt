-- The flags among the words after a command: `--remote`, `--lasting` and `--entries`, which have no value.
use Rattle.std.specs.Prelude.{ℕ, Bool, true, false, not, ◌&&◌, ◌||◌, ◌==◌, List, [], ◌∷◌, ◌++◌, codes, Option, Some, None, if◌then◌else◌}
use Rattle.std.specs.List.{list_any}
use Rattle.std.specs.Str.{bytes_eq}
use Rattle.hags_words.specs.Options.{◌>>=◌, is_end}
use Rattle.hags_words.specs.declared.flags.Flag.{Flag}
use Rattle.hags_words.specs.declared.flags.Flag.TheVariants as flag
use Rattle.hags_words.specs.declared.flags.Flags.{Flags}

abbrev pub no_flags : Flags
no_flags = record { remote = false; lasting = false; entries = false }

abbrev pub has_flag : Flags → Flag → Bool
has_flag fs flag.Remote = fs.remote
has_flag fs flag.Lasting = fs.lasting
has_flag fs flag.Entries = fs.entries

abbrev pub with_flag : Flags → Flag → Flags
with_flag fs flag.Remote = record fs { remote = true }
with_flag fs flag.Lasting = record fs { lasting = true }
with_flag fs flag.Entries = record fs { entries = true }

-- which of them came, whether the last word is an option whose value is the next one, whether `--` came, and the other words
pub record Split : Type 0 where
  pub flags : Flags
  pub waiting : Bool
  pub ended : Bool
  pub left : List (List ℕ)

abbrev pub none_split : Split
none_split = record { flags = no_flags; waiting = false; ended = false; left = [] }

-- the flag that a word is
unfoldable pub flag_named : List ℕ → Option Flag
flag_named word = if bytes_eq word (codes "--remote") then Some flag.Remote
    else (if bytes_eq word (codes "--lasting") then Some flag.Lasting
    else (if bytes_eq word (codes "--entries") then Some flag.Entries else None))

abbrev pub is_long : List ℕ → Bool
is_long (a ∷ b ∷ c ∷ cs) = (a == 45) && (b == 45)
is_long _ = false

-- an option without its value, which is to be the next word
unfoldable pub waits : List ℕ → Bool
waits word = is_long word && not (list_any (λ b. b == 61) word)

-- with a word that is no flag behind them
abbrev pub kept : Split → List ℕ → Split
kept s word = record s { waiting = waits word; ended = s.ended || is_end word; left = s.left ++ word ∷ [] }

-- none has a place twice, nor where a value is to stand
abbrev pub word_placed : Split → List ℕ → Option Flag → Option Split
word_placed s word None = Some (kept s word)
word_placed s word (Some f) = if has_flag s.flags f || s.waiting then None else Some (record s { flags = with_flag s.flags f })

unfoldable pub after_flag : Split → List ℕ → Option Split
after_flag s word = if s.ended then Some (kept s word) else word_placed s word (flag_named word)

unfoldable pub flag_from : Split → List (List ℕ) → Option Split
flag_from s [] = Some s
flag_from s (word ∷ words) = after_flag s word >>= λ t. flag_from t words

-- the words before, between and behind them, where each is there at most once
unfoldable pub flag_of : List (List ℕ) → Option Split
flag_of words = flag_from none_split words
