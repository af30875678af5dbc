-- The words after a command: an operand at most, and options in any order, each at most once, as `--name VALUE` or
-- `--name=VALUE`. Behind a word `--` each word is an operand; before it a word that begins with a hyphen is none, and no
-- value of its own either, unless it is the hyphen alone.
use Rattle.std.specs.Prelude.{ℕ, Bool, true, false, List, [], ◌∷◌, ◌++◌, codes, Option, Some, None, if◌then◌else◌, option_map, ◌||◌}
use Rattle.std.specs.List.{list_any, find}
use Rattle.std.specs.Str.{bytes_eq}
use Rattle.clap.specs.Lexer.{long_of, is_short_word}

-- what words after a command may give
pub data Argument : Type 0 where
  operand : Argument
  kinds : Argument
  node : Argument
  inc : Argument
  turns : Argument
  key : Argument
  silence : Argument
  mend : Argument
  gap : Argument

abbrev pub name_of : Argument → List ℕ
name_of operand = codes "operand"
name_of kinds = codes "kinds"
name_of node = codes "node"
name_of inc = codes "inc"
name_of turns = codes "turns"
name_of key = codes "key"
name_of silence = codes "silence"
name_of mend = codes "mend"
name_of gap = codes "gap"

-- the option of this name, as it stands behind two hyphens
abbrev pub option_named : List ℕ → Option Argument
option_named name = if bytes_eq (codes "kinds") name then Some kinds
    else (if bytes_eq (codes "node") name then Some node
    else (if bytes_eq (codes "inc") name then Some inc
    else (if bytes_eq (codes "turns") name then Some turns
    else (if bytes_eq (codes "key") name then Some key
    else (if bytes_eq (codes "silence") name then Some silence
    else (if bytes_eq (codes "mend") name then Some mend
    else (if bytes_eq (codes "gap") name then Some gap else None)))))))

abbrev pub is_same : Argument → Argument → Bool
is_same operand operand = true
is_same kinds kinds = true
is_same node node = true
is_same inc inc = true
is_same turns turns = true
is_same key key = true
is_same silence silence = true
is_same mend mend = true
is_same gap gap = true
is_same _ _ = false

-- values, each with what it is the value of
abbrev pub Values : Type 0
Values = List (Argument × List ℕ)

abbrev pub is_given : Argument → Values → Bool
is_given a values = list_any (λ p. is_same p.0 a) values

abbrev pub value_of : Argument → Values → Option (List ℕ)
value_of a values = option_map (λ p. p.1) (find (λ p. is_same p.0 a) values)

-- the values so far, the option that waits for its value, and whether `--` came
pub record Given : Type 0 where
  pub values : Values
  pub waits : Option Argument
  pub ended : Bool

abbrev pub none_given : Given
none_given = record { values = []; waits = None; ended = false }

-- a value more, of what has none yet
abbrev pub with_value : Given → Argument → List ℕ → Option Given
with_value g a value = if is_given a g.values then None else Some (record g { values = g.values ++ (a, value) ∷ []; waits = None })

-- a word behind `--`
abbrev pub with_operand : Given → Option Argument → List ℕ → Option Given
with_operand g None word = with_value g operand word
with_operand g (Some a) word = None

-- a word that is no option: the operand, or the value that is waited for
abbrev pub with_plain : Given → Option Argument → List ℕ → Option Given
with_plain g None word = with_value g operand word
with_plain g (Some a) word = with_value g a word

-- an option, with its value or without
abbrev pub with_option : Given → Option Argument → Option Argument → Option (List ℕ) → Option Given
with_option g (Some waiting) named value = None
with_option g None None value = None
with_option g None (Some a) None = Some (record g { waits = Some a })
with_option g None (Some a) (Some value) = with_value g a value

abbrev pub with_word : Given → List ℕ → Option (List ℕ × Option (List ℕ)) → Option Given
with_word g word (Some p) = with_option g g.waits (option_named p.0) p.1
with_word g word None = with_plain g g.waits word

abbrev pub is_end : List ℕ → Bool
is_end word = bytes_eq word (45 ∷ 45 ∷ [])

abbrev pub after_word : Given → List ℕ → Option Given
after_word g word =
    if g.ended then with_operand g g.waits word
    else (if is_end word then Some (record g { ended = true })
    else (if is_short_word word then None
    else with_word g word (long_of word)))

infixl 10 ◌>>=◌
abbrev pub ◌>>=◌ : {A B : Type 0} → Option A → (A → Option B) → Option B
(Some x) >>= f = f x
None >>= f = None

abbrev pub unless_waiting : Values → Option Argument → Option Values
unless_waiting values None = Some values
unless_waiting values (Some a) = None

unfoldable pub given_from : Given → List (List ℕ) → Option Values
given_from g [] = unless_waiting g.values g.waits
given_from g (word ∷ words) = after_word g word >>= λ after. given_from after words

-- what the words give, where they are of the grammar
unfoldable pub given_of : List (List ℕ) → Option Values
given_of words = given_from none_given words

-- one of the words before `--` is an option of one letter
abbrev pub has_short : List (List ℕ) → Bool
has_short [] = false
has_short (word ∷ words) = if is_end word then false else (is_short_word word || has_short words)
