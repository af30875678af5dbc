-- The kinds of records that are shown, and how they are named.
use Rattle.std.specs.Prelude.{ℕ, ◌-◌, ◌^◌, Bool, false, not, ◌==◌, List, [], ◌∷◌, length, filter, flat_map, find, Option, Some, None, codes, bit_and, bit_or, if◌then◌else◌}
use Rattle.std.specs.List.{position_or_len}
use Rattle.std.specs.Str.{bytes_eq}
use Rattle.node_state.specs.declared.happened.Happened.{Happened}
use Rattle.world_model.specs.Text.{line_of}
use Rattle.world_model.specs.Play.{kind_of}
use Rattle.value_words.specs.Words.{◌>>=◌, split_on}
use Rattle.transcript.specs.declared.kinds.Kinds.{Kinds}
use Rattle.transcript.specs.declared.kinds.Kind.{Kind}
use Rattle.transcript.specs.declared.kinds.Kind.TheVariants as kind

-- ---- one kind

abbrev pub every_kind : List Kind
every_kind = kind.Up ∷ kind.Down ∷ kind.Ring ∷ kind.In ∷ kind.Base ∷ kind.Put ∷ kind.Heard ∷ kind.Cast ∷ kind.Asked ∷ kind.Told ∷ kind.Noted ∷ kind.Refused ∷ kind.Show ∷ []

-- the word of a kind, with which its lines begin
abbrev pub word_of : Kind → List ℕ
word_of kind.Up = codes "up"
word_of kind.Down = codes "down"
word_of kind.Ring = codes "ring"
word_of kind.In = codes "in"
word_of kind.Base = codes "base"
word_of kind.Put = codes "put"
word_of kind.Heard = codes "heard"
word_of kind.Cast = codes "cast"
word_of kind.Asked = codes "asked"
word_of kind.Told = codes "told"
word_of kind.Noted = codes "noted"
word_of kind.Refused = codes "refused"
word_of kind.Show = codes "show"

unfoldable pub kind_word : List ℕ → Option Kind
kind_word w = find (λ c. bytes_eq (word_of c) w) every_kind

-- the place of a kind among them all
unfoldable pub number_of : Kind → ℕ
number_of c = position_or_len (λ d. bytes_eq (word_of d) (word_of c)) every_kind

unfoldable pub bit_of : Kind → ℕ
bit_of c = 2 ^ number_of c

-- ---- a set of kinds: the bits of those in it

unfoldable pub all_kinds : Kinds
all_kinds = record { bits = 2 ^ length every_kind - 1 }

unfoldable pub no_kinds : Kinds
no_kinds = record { bits = 0 }

unfoldable pub has_kind : Kinds → Kind → Bool
has_kind k c = not (bit_and k.bits (bit_of c) == 0)

unfoldable pub with_kind : Kinds → Kind → Kinds
with_kind k c = record { bits = bit_or k.bits (bit_of c) }

-- is it a kind, and one of these?
abbrev pub has_named : Kinds → Option Kind → Bool
has_named k None = false
has_named k (Some c) = has_kind k c

-- a record is of the kind whose word its line begins with
unfoldable pub shows : Kinds → Happened → Bool
shows k r = has_named k (kind_word (kind_of r))

-- the lines of the records of these kinds
unfoldable pub kinds_text : Kinds → List Happened → List ℕ
kinds_text k rs = flat_map line_of (filter (shows k) rs)

-- ---- how a set is named

-- one kind more, which is not among them yet
abbrev pub with_new : Kinds → Kind → Option Kinds
with_new k c = if has_kind k c then None else Some (with_kind k c)

unfoldable pub kind_step : Kinds → List ℕ → Option Kinds
kind_step k w = do
  c ← kind_word w
  with_new k c

unfoldable pub kinds_from : Kinds → List (List ℕ) → Option Kinds
kinds_from k [] = Some k
kinds_from k (w ∷ ws) = do
  j ← kind_step k w
  kinds_from j ws

-- kinds joined by commas, each once
unfoldable pub kinds_of : List ℕ → Option Kinds
kinds_of word = kinds_from no_kinds (split_on 44 word)
