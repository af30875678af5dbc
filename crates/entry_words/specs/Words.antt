-- How the attributes of a group are read.
use Rattle.std.specs.Prelude.{ℕ, true, false, ◌==◌, List, [], ◌∷◌, Option, Some, None, codes, decimal, find, if◌then◌else◌}
use Rattle.std.specs.List.{list_any, position_or_len}
use Rattle.std.specs.Option.{option_map}
use Rattle.std.specs.Str.{bytes_eq}
use Rattle.group_attr.specs.declared.attrs.Attrs.{Attrs}
use Rattle.group_attr.specs.declared.attrs.Phases.{Phases}
use Rattle.group_attr.specs.declared.attrs.Phases.TheVariants as phases
use Rattle.group_attr.specs.declared.attrs.Batch.{Batch}
use Rattle.group_attr.specs.declared.attrs.Batch.TheVariants as batch
use Rattle.group_attr.specs.declared.attrs.DefaultVote.{DefaultVote}
use Rattle.group_attr.specs.declared.attrs.DefaultVote.TheVariants as default_vote
use Rattle.group_attr.specs.Attrs.{empty_attrs}
use Rattle.value_words.specs.Words.{number_word, name_word, chosen}
use Rattle.entry_words.specs.declared.attrs.AttrKey.{AttrKey}
use Rattle.entry_words.specs.declared.attrs.AttrKey.TheVariants as key

unfoldable pub phases_word : List ℕ → Option Phases
phases_word w = chosen (record { word = codes "1"; means = phases.One } ∷ record { word = codes "n"; means = phases.Many } ∷ []) w

unfoldable pub batch_word : List ℕ → Option Batch
batch_word w =
    chosen (record { word = codes "none"; means = batch.Neither } ∷ record { word = codes "joins"; means = batch.Joins } ∷ record { word = codes "failures"; means = batch.Failures } ∷ record { word = codes "both"; means = batch.Both } ∷ []) w

unfoldable pub default_word : List ℕ → Option DefaultVote
default_word w = chosen (record { word = codes "approve"; means = default_vote.Approve } ∷ record { word = codes "reject"; means = default_vote.Reject } ∷ []) w

-- ---- the attributes, a row each

abbrev pub every_key : List AttrKey
every_key = key.Phases ∷ key.Batch ∷ key.Default ∷ key.Limit ∷ key.Source ∷ key.SourcePhases ∷ key.SourceLimit ∷ []

-- the words of values; none for those of the empty state
unfoldable pub phases_value : Phases → Option (List ℕ)
phases_value phases.One = None
phases_value phases.Many = Some (codes "n")

unfoldable pub batch_value : Batch → Option (List ℕ)
batch_value batch.Neither = None
batch_value batch.Joins = Some (codes "joins")
batch_value batch.Failures = Some (codes "failures")
batch_value batch.Both = Some (codes "both")

unfoldable pub default_value : DefaultVote → Option (List ℕ)
default_value default_vote.Approve = None
default_value default_vote.Reject = Some (codes "reject")

unfoldable pub limit_value : ℕ → Option (List ℕ)
limit_value n = if n == 0 then None else Some (decimal n)

-- an attribute: the word before the `=`, what the word behind it sets, and that word of attributes
pub record AttrRow : Type 0 where
  pub word : List ℕ
  pub set : Attrs → List ℕ → Option Attrs
  pub value : Attrs → Option (List ℕ)

unfoldable pub attr_row : AttrKey → AttrRow
attr_row key.Phases = record { word = codes "phases"; set = λ a w. option_map (λ x. record a { phases = x }) (phases_word w); value = λ a. phases_value a.phases }
attr_row key.Batch = record { word = codes "batch"; set = λ a w. option_map (λ x. record a { batch = x }) (batch_word w); value = λ a. batch_value a.batch }
attr_row key.Default = record { word = codes "default"; set = λ a w. option_map (λ x. record a { default_vote = x }) (default_word w); value = λ a. default_value a.default_vote }
attr_row key.Limit = record { word = codes "limit"; set = λ a w. option_map (λ x. record a { limit = x }) (number_word 0 65535 w); value = λ a. limit_value a.limit }
attr_row key.Source = record { word = codes "source"; set = λ a w. option_map (λ x. record a { source = Some x }) (name_word 32 w); value = λ a. a.source }
attr_row key.SourcePhases = record { word = codes "sphases"; set = λ a w. option_map (λ x. record a { source_phases = x }) (phases_word w); value = λ a. phases_value a.source_phases }
attr_row key.SourceLimit = record { word = codes "slimit"; set = λ a w. option_map (λ x. record a { source_limit = x }) (number_word 0 65535 w); value = λ a. limit_value a.source_limit }

-- the place of an attribute among them all
unfoldable pub key_number : AttrKey → ℕ
key_number k = position_or_len (λ j. bytes_eq (attr_row j).word (attr_row k).word) every_key

unfoldable pub key_word : List ℕ → Option AttrKey
key_word w = find (λ k. bytes_eq (attr_row k).word w) every_key

-- the bytes before the first `=`, and those after it
unfoldable pub before_equals : List ℕ → List ℕ
before_equals [] = []
before_equals (b ∷ bs) = elim (b == 61) [ true ↦ [] | false ↦ b ∷ before_equals bs ]

unfoldable pub after_equals : List ℕ → Option (List ℕ)
after_equals [] = None
after_equals (b ∷ bs) = elim (b == 61) [ true ↦ Some bs | false ↦ after_equals bs ]

-- each attribute at most once
unfoldable pub attrs_from : List ℕ → Attrs → List (List ℕ) → Option Attrs
attrs_from seen a [] = Some a
attrs_from seen a (w ∷ ws) =
    elim (key_word (before_equals w)) [
      | None ↦ None
      | Some k ↦ elim (after_equals w) [
        | None ↦ None
        | Some v ↦ elim (list_any (λ n. n == key_number k) seen) [
          | true ↦ None
          | false ↦ elim ((attr_row k).set a v) [ None ↦ None | Some b ↦ attrs_from (key_number k ∷ seen) b ws ]
        ]
      ]
    ]

unfoldable pub attr_words : List (List ℕ) → Option Attrs
attr_words ws = attrs_from [] empty_attrs ws

-- opens each word of this file, for a computation
unfoldable pub attr_words_open : Unit {0}
unfolding phases_word batch_word default_word phases_value batch_value default_value limit_value attr_row key_number key_word before_equals after_equals attrs_from attr_words
attr_words_open = tt
