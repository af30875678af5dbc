-- Kinds are read part by part, and show what their words name.
use Rattle.std.proofs.Common.{◌≡◌, ℕ, ◌*◌, ◌%◌, ◌^◌, ◌==◌, ◌||◌, not, Bool, true, false, cond, List, [], ◌∷◌, filter, flat_map, slice_get, bit_and, bit_or, Option, Some, None, refl, sym, ◌∙◌, ap, if◌then◌else◌}
use Rattle.std.specs.List.{find, list_any}
use Rattle.std.specs.Option.{is_some}
use Rattle.std.specs.Str.{bytes_eq}
use Rattle.std.proofs.lemmas.Slice.Eq.{bytes_eq-Decides}
use Rattle.std.proofs.lemmas.Nat.{and_or_self, and_or_apart, pow_apart}
use denote.Enum.Declared.{tag_of}
use Rattle.rsct_packet.specs.Lists.{is_empty}
use Rattle.node_state.specs.declared.happened.Happened.{Happened}
use Rattle.node_state.specs.declared.happened.Happened.TheVariants as happened
use Rattle.world_model.specs.Text.{line_of}
use Rattle.value_words.specs.Words.{◌>>=◌, split_on}
use Rattle.world_model.specs.Play.{kind_of, is_shown, lines_text, kinds_in}
use Rattle.value_words.proofs.SplitLaws.{some_piece}
use Rattle.transcript.specs.declared.kinds.Kinds.{Kinds}
use Rattle.transcript.specs.declared.kinds.Kind.{Kind}
use Rattle.transcript.specs.declared.kinds.Kind.TheVariants as kind
use Rattle.transcript.specs.contracts.kinds.Kind.{the_type}
use Rattle.transcript.specs.Kinds.{every_kind, word_of, kind_word, number_of, bit_of, all_kinds, no_kinds, has_kind, with_kind, has_named, shows, kinds_text, with_new, kind_step, kinds_from, kinds_of}

-- ---- reading

-- what the parts after one give
abbrev pub kinds_after : Option Kinds → List (List ℕ) → Option Kinds
kinds_after None ws = None
kinds_after (Some k) ws = kinds_from k ws

step_first : (s : Option Kinds) (ws : List (List ℕ)) → (s >>= λ j. kinds_from j ws) ≡ kinds_after s ws
unfolding ◌>>=◌
step_first None ws = refl
step_first (Some j) ws = refl

kinds_cons : (k : Kinds) (w : List ℕ) (ws : List (List ℕ)) → kinds_from k (w ∷ ws) ≡ kinds_after (kind_step k w) ws
unfolding kinds_from
kinds_cons k w ws = step_first (kind_step k w) ws

-- a part that names a new kind
pub kinds_more : (k j : Kinds) (b w after : List ℕ) (all : Option Kinds) → split_on 44 b ≡ w ∷ split_on 44 after → Some j ≡ kind_step k w → kinds_from k (split_on 44 b) ≡ all
    → kinds_from j (split_on 44 after) ≡ all
kinds_more k j b w after all e f h =
    sym (ap (λ ws. kinds_from k ws) e ∙ (kinds_cons k w (split_on 44 after) ∙ ap (λ s. kinds_after s (split_on 44 after)) (sym f))) ∙ h

-- a part that names none
pub kinds_fail : (k : Kinds) (b w after : List ℕ) (all : Option Kinds) → split_on 44 b ≡ w ∷ split_on 44 after → kind_step k w ≡ None → kinds_from k (split_on 44 b) ≡ all → all ≡ None
kinds_fail k b w after all e f h =
    sym h ∙ (ap (λ ws. kinds_from k ws) e ∙ (kinds_cons k w (split_on 44 after) ∙ ap (λ s. kinds_after s (split_on 44 after)) f))

last_step : (s : Option Kinds) → kinds_after s [] ≡ s
unfolding kinds_from
last_step None = refl
last_step (Some j) = refl

-- the last part
pub kinds_last : (k : Kinds) (b : List ℕ) (s all : Option Kinds) → split_on 44 b ≡ b ∷ [] → s ≡ kind_step k b → kinds_from k (split_on 44 b) ≡ all → s ≡ all
kinds_last k b s all e f h =
    f ∙ (sym (last_step (kind_step k b)) ∙ (sym (kinds_cons k b []) ∙ (ap (λ ws. kinds_from k ws) (sym e) ∙ h)))

-- ---- a kind, its word and its bit

-- the number that the code has for a kind is its place
pub bit_by_tag : (c : Kind) → 1 * 2 ^ tag_of the_type c % 2 ^ 16 ≡ bit_of c
unfolding bit_of number_of
bit_by_tag c = elim c as (λ c. 1 * 2 ^ tag_of the_type c % 2 ^ 16 ≡ bit_of c) [ kind.Up ↦ refl | _ ↦ refl ]

word_names : (c : Kind) → kind_word (word_of c) ≡ Some c
unfolding kind_word
word_names c = elim c as (λ c. kind_word (word_of c) ≡ Some c) [ kind.Up ↦ refl | _ ↦ refl ]

place_names : (c : Kind) → slice_get every_kind (number_of c) ≡ Some c
unfolding number_of
place_names c = elim c as (λ c. slice_get every_kind (number_of c) ≡ Some c) [ kind.Up ↦ refl | _ ↦ refl ]

bit_is_set : (c : Kind) → not (bit_of c == 0) ≡ true
unfolding bit_of number_of
bit_is_set c = elim c as (λ c. not (bit_of c == 0) ≡ true) [ kind.Up ↦ refl | _ ↦ refl ]

same_by_word : (c d : Kind) → word_of d ≡ word_of c → d ≡ c
same_by_word c d e = let both : ◌≡◌ {A = Option Kind} (Some d) (Some c) = sym (word_names d) ∙ (ap kind_word e ∙ word_names c) in cc

same_by_place : (c d : Kind) → number_of c ≡ number_of d → c ≡ d
same_by_place c d e = let both : ◌≡◌ {A = Option Kind} (Some c) (Some d) = sym (place_names c) ∙ (ap (slice_get every_kind) e ∙ place_names d) in cc

bits_apart : (c d : Kind) → bytes_eq (word_of d) (word_of c) ≡ false → bit_and (bit_of c) (bit_of d) ≡ 0
unfolding bit_of
bits_apart c d e = pow_apart (number_of c) (number_of d) (λ (n : number_of c ≡ number_of d).
    let same : bytes_eq (word_of d) (word_of c) ≡ true = (bytes_eq-Decides (word_of d) (word_of c)).1 (ap word_of (sym (same_by_place c d n))) in absurd cc)

head_passes : (t : Bool) (p : Kind → Bool) (c : Kind) (cs : List Kind) (d : Kind) → p c ≡ t → (find p cs ≡ Some d → p d ≡ true) → cond t (Some c) (find p cs) ≡ Some d → p d ≡ true
head_passes true p c cs d h go e = let same : c ≡ d = cc in ap p (sym same) ∙ h
head_passes false p c cs d h go e = go e

find_passes : (p : Kind → Bool) (cs : List Kind) (d : Kind) → find p cs ≡ Some d → p d ≡ true
find_passes p [] d e = absurd cc
find_passes p (c ∷ cs) d e = head_passes (p c) p c cs d refl (find_passes p cs d) e

kind_has_word : (w : List ℕ) (d : Kind) → kind_word w ≡ Some d → word_of d ≡ w
unfolding kind_word
kind_has_word w d e = (bytes_eq-Decides (word_of d) w).0 (find_passes (λ c. bytes_eq (word_of c) w) every_kind d e)

-- ---- what kinds show

-- the kind of a record is that of its word
pub record_shown : (k : Kinds) (c : Kind) (r : Happened) (shown : Bool) → word_of c ≡ kind_of r → shown ≡ has_kind k c → shown ≡ shows k r
unfolding shows
record_shown k c r shown e h = h ∙ ap (has_named k) (sym (word_names c) ∙ ap kind_word e)

has_in : (t : Bool) (k : Kinds) (c d : Kind) → bytes_eq (word_of d) (word_of c) ≡ t → has_kind (with_kind k c) d ≡ (t || has_kind k d)
unfolding has_kind with_kind
has_in true k c d e =
    let same : d ≡ c = same_by_word c d ((bytes_eq-Decides (word_of d) (word_of c)).0 e) in
    ap (λ b. not (bit_and (bit_or k.bits (bit_of b)) (bit_of d) == 0)) (sym same) ∙ (ap (λ n. not (n == 0)) (and_or_self (bit_of d) k.bits) ∙ bit_is_set d)
has_in false k c d e = ap (λ n. not (n == 0)) (and_or_apart (bit_of d) k.bits (bit_of c) (bits_apart c d e))

has_kind_of_its_own : (r : Happened) → is_some (kind_word (kind_of r)) ≡ true
unfolding kind_word kind_of
has_kind_of_its_own r = elim r as (λ r. is_some (kind_word (kind_of r)) ≡ true) [ happened.Up node inc ↦ refl | _ ↦ refl ]

named_in_more : (k : Kinds) (c : Kind) (r : Happened) (o : Option Kind) → kind_word (kind_of r) ≡ o → is_some o ≡ true → has_named (with_kind k c) o ≡ (bytes_eq (kind_of r) (word_of c) || has_named k o)
named_in_more k c r None e some = absurd cc
named_in_more k c r (Some d) e some =
    has_in (bytes_eq (word_of d) (word_of c)) k c d refl ∙ ap (λ w. bytes_eq w (word_of c) || has_kind k d) (kind_has_word (kind_of r) d e)

with_shows : (k : Kinds) (c : Kind) (r : Happened) → shows (with_kind k c) r ≡ (bytes_eq (kind_of r) (word_of c) || shows k r)
unfolding shows
with_shows k c r = named_in_more k c r (kind_word (kind_of r)) refl (has_kind_of_its_own r)

no_shows : (r : Happened) → shows no_kinds r ≡ false
unfolding shows no_kinds has_kind bit_of number_of kind_word kind_of
no_shows r = elim r as (λ r. shows no_kinds r ≡ false) [ happened.Up node inc ↦ refl | _ ↦ refl ]

-- every record is shown where no kind is named
pub all_show : (r : Happened) → shows all_kinds r ≡ is_shown [] r
unfolding shows all_kinds has_kind bit_of number_of kind_word kind_of is_shown
all_show r = elim r as (λ r. shows all_kinds r ≡ true) [ happened.Up node inc ↦ refl | _ ↦ refl ]

new_shows : (t : Bool) (k j : Kinds) (c : Kind) (r : Happened) → ◌≡◌ {A = Option Kinds} (if t then None else Some (with_kind k c)) (Some j) → shows j r ≡ (bytes_eq (kind_of r) (word_of c) || shows k r)
new_shows true k j c r e = absurd cc
new_shows false k j c r e = let same : with_kind k c ≡ j = cc in ap (λ i. shows i r) (sym same) ∙ with_shows k c r

word_shows : (k j : Kinds) (w : List ℕ) (r : Happened) (read : Option Kind) → kind_word w ≡ read → (read >>= λ c. with_new k c) ≡ Some j → shows j r ≡ (bytes_eq (kind_of r) w || shows k r)
unfolding ◌>>=◌
word_shows k j w r None e f = absurd cc
word_shows k j w r (Some c) e f = new_shows (has_kind k c) k j c r f ∙ ap (λ u. bytes_eq (kind_of r) u || shows k r) (kind_has_word w c e)

step_shows : (k j : Kinds) (w : List ℕ) (r : Happened) → kind_step k w ≡ Some j → shows j r ≡ (bytes_eq (kind_of r) w || shows k r)
unfolding kind_step
step_shows k j w r e = word_shows k j w r (kind_word w) refl e

or_turned : (a b c : Bool) → (a || (b || c)) ≡ ((b || a) || c)
or_turned true true c = refl
or_turned true false c = refl
or_turned false true c = refl
or_turned false false c = refl

after_shows : (k m : Kinds) (w : List ℕ) (ws : List (List ℕ)) (r : Happened) (s : Option Kinds) → kind_step k w ≡ s
    → ((j : Kinds) → kinds_from j ws ≡ Some m → shows m r ≡ (list_any (bytes_eq (kind_of r)) ws || shows j r))
    → kinds_after s ws ≡ Some m → shows m r ≡ ((bytes_eq (kind_of r) w || list_any (bytes_eq (kind_of r)) ws) || shows k r)
after_shows k m w ws r None e go f = absurd cc
after_shows k m w ws r (Some j) e go f =
    go j f ∙ (ap (λ t. list_any (bytes_eq (kind_of r)) ws || t) (step_shows k j w r e)
    ∙ or_turned (list_any (bytes_eq (kind_of r)) ws) (bytes_eq (kind_of r) w) (shows k r))

from_shows : (k m : Kinds) (ws : List (List ℕ)) (r : Happened) → kinds_from k ws ≡ Some m → shows m r ≡ (list_any (bytes_eq (kind_of r)) ws || shows k r)
unfolding kinds_from
from_shows k m [] r e = let same : k ≡ m = cc in ap (λ i. shows i r) (sym same)
from_shows k m (w ∷ ws) r e =
    after_shows k m w ws r (kind_step k w) refl (λ j. from_shows j m ws r) (sym (kinds_cons k w ws) ∙ e)

or_none : (a : Bool) → (a || false) ≡ a
or_none true = refl
or_none false = refl

parts_shown : (ws : List (List ℕ)) (r : Happened) → is_empty ws ≡ false → list_any (bytes_eq (kind_of r)) ws ≡ is_shown ws r
unfolding is_shown
parts_shown [] r e = absurd cc
parts_shown (w ∷ ws) r e = refl

no_word : (k : Kinds) → kinds_of [] ≡ Some k → ⊥
unfolding kinds_of split_on kinds_from kind_step kind_word ◌>>=◌
no_word k e = cc

named_in : (word : List ℕ) (k : Kinds) → kinds_of word ≡ Some k → split_on 44 word ≡ kinds_in word
unfolding kinds_in
named_in [] k e = absurd (no_word k e)
named_in (x ∷ xs) k e = refl

-- kinds show the records that their word names
pub named_show : (word : List ℕ) (k : Kinds) (r : Happened) → kinds_of word ≡ Some k → shows k r ≡ is_shown (kinds_in word) r
unfolding kinds_of
named_show word k r e =
    from_shows no_kinds k (split_on 44 word) r e
    ∙ (ap (λ t. list_any (bytes_eq (kind_of r)) (split_on 44 word) || t) (no_shows r)
    ∙ (or_none (list_any (bytes_eq (kind_of r)) (split_on 44 word))
    ∙ (parts_shown (split_on 44 word) r (some_piece 44 word) ∙ ap (λ ws. is_shown ws r) (named_in word k e))))

-- ---- the lines

filter_alike : (p q : Happened → Bool) (rs : List Happened) → ((r : Happened) → p r ≡ q r) → filter p rs ≡ filter q rs
filter_alike p q [] h = refl
filter_alike p q (r ∷ rs) h = rw (h r, filter_alike p q rs h) refl

pub all_lines : (rs : List Happened) → kinds_text all_kinds rs ≡ lines_text [] rs
unfolding kinds_text lines_text
all_lines rs = ap (flat_map line_of) (filter_alike (shows all_kinds) (is_shown []) rs all_show)

pub named_lines : (word : List ℕ) (k : Kinds) (rs : List Happened) → kinds_of word ≡ Some k → kinds_text k rs ≡ lines_text (kinds_in word) rs
unfolding kinds_text lines_text
named_lines word k rs e = ap (flat_map line_of) (filter_alike (shows k) (is_shown (kinds_in word)) rs (λ r. named_show word k r e))

-- no kinds show nothing
pub no_lines : (rs : List Happened) → kinds_text no_kinds rs ≡ []
unfolding kinds_text
no_lines [] = refl
no_lines (r ∷ rs) = ap (λ (t : Bool). flat_map line_of (if t then r ∷ filter (shows no_kinds) rs else filter (shows no_kinds) rs)) (no_shows r) ∙ no_lines rs
