-- Words as one writes them after a command: an operand and options in any order, each option in one of its two forms.
use Rattle.std.specs.Prelude.{◌≡◌, ℕ, false, ◌==◌, List, [], ◌∷◌, ◌++◌, map}
use Rattle.hags_words.specs.Options.{Argument, operand, name_of, Values, is_given}

-- `--name=VALUE`, or `--name VALUE`
pub data Form : Type 0 where
  joined : Form
  apart : Form

pub record Use : Type 0 where
  pub argument : Argument
  pub form : Form
  pub value : List ℕ

abbrev pub option_words : Argument → Form → List ℕ → List (List ℕ)
option_words a joined value = (45 ∷ 45 ∷ (name_of a ++ 61 ∷ value)) ∷ []
option_words a apart value = (45 ∷ 45 ∷ name_of a) ∷ value ∷ []

abbrev pub use_words : Argument → Form → List ℕ → List (List ℕ)
use_words operand form value = value ∷ []
use_words a form value = option_words a form value

-- a word of its own that does not begin with a hyphen
abbrev pub IsPlain : List ℕ → Type 0
IsPlain [] = Unit {0}
IsPlain (x ∷ xs) = (x == 45) ≡ false

abbrev option_is_plain : Form → List ℕ → Type 0
option_is_plain joined value = Unit {0}
option_is_plain apart value = IsPlain value

abbrev pub IsUse : Argument → Form → List ℕ → Type 0
IsUse operand form value = IsPlain value
IsUse a form value = option_is_plain form value

unfoldable pub words_of : List Use → List (List ℕ)
words_of [] = []
words_of (u ∷ us) = use_words u.argument u.form u.value ++ words_of us

abbrev pub values_of : List Use → Values
values_of = map (λ u. (u.argument, u.value))

-- each at most once, and none that is given already
unfoldable pub AreUses : Values → List Use → Type 0
AreUses given [] = Unit {0}
AreUses given (u ∷ us) = (is_given u.argument given ≡ false) × IsUse u.argument u.form u.value × AreUses (given ++ (u.argument, u.value) ∷ []) us
