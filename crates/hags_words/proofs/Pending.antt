-- The words as clap goes through them: the one that was read last waits, with its value or without, and what it gives is
-- noted when the next one comes.
use Rattle.std.specs.Prelude.{ℕ, Bool, true, false, List, [], ◌∷◌, ◌++◌, Option, Some, None, if◌then◌else◌}
use Rattle.std.specs.Str.{bytes_eq}
use Rattle.clap.specs.Lexer.{long_of}
use Rattle.hags_words.specs.Options.{Argument, operand, Values, is_given, option_named, ◌>>=◌}

-- the values so far, the one that was read last, with its value or without, whether `--` came, and whether an operand did
pub record Pending : Type 0 where
  pub values : Values
  pub last : Option (Argument × Option (List ℕ))
  pub ended : Bool
  pub taken : Bool

abbrev pub none_pending : Pending
none_pending = record { values = []; last = None; ended = false; taken = false }

abbrev pub added : Argument → List ℕ → Values → Option Values
added o v values = if is_given o values then None else Some (values ++ (o, v) ∷ [])

-- with the last one, which needs a value and is not there yet
abbrev pub closed : Values → Option (Argument × Option (List ℕ)) → Option Values
closed values None = Some values
closed values (Some (o, None)) = None
closed values (Some (o, Some v)) = added o v values

-- the operand: there is one at most
abbrev pub pending_operand : Pending → List ℕ → Bool → Option Pending
pending_operand g word true = None
pending_operand g word false = closed g.values g.last >>= λ values. Some (record g { values = values; last = Some (operand, Some word); taken = true })

-- a word that is no option: the value that is waited for, or the operand
abbrev pub pending_plain : Pending → Option (Argument × Option (List ℕ)) → List ℕ → Option Pending
pending_plain g (Some (o, None)) word = Some (record g { last = Some (o, Some word) })
pending_plain g _ word = pending_operand g word g.taken

abbrev pub pending_option : Pending → Option Argument → Option (List ℕ) → Option Pending
pending_option g None v = None
pending_option g (Some o) None = closed g.values g.last >>= λ values. Some (record g { values = values; last = Some (o, None) })
pending_option g (Some o) (Some v) = closed g.values g.last >>= λ values. added o v values >>= λ all. Some (record g { values = all; last = None })

abbrev pub pending_word : Pending → List ℕ → Option (List ℕ × Option (List ℕ)) → Option Pending
pending_word g word (Some p) = pending_option g (option_named p.0) p.1
pending_word g word None = pending_plain g g.last word

-- after `--` each word is an operand
abbrev pub after_pending : Pending → List ℕ → Option Pending
after_pending g word =
    if g.ended then pending_operand g word g.taken
    else (if bytes_eq word (45 ∷ 45 ∷ []) then Some (record g { ended = true })
    else pending_word g word (long_of word))

unfoldable pub pending_from : Pending → List (List ℕ) → Option Values
pending_from g [] = closed g.values g.last
pending_from g (word ∷ words) = after_pending g word >>= λ after. pending_from after words

-- what the words give, where they are of the grammar
abbrev pub pending_of : List (List ℕ) → Option Values
pending_of words = pending_from none_pending words
