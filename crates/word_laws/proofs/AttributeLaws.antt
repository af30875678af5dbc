-- Attributes are read as they are written.
use Rattle.std.proofs.Common.{◌≡◌, ℕ, ◌+◌, ◌<◌, Bool, true, false, List, [], ◌∷◌, ◌++◌, length, filter, flat_map, Option, Some, None, refl, sym, ◌∙◌, ap, arith, append_assoc, append-nil}
use Rattle.std.specs.Prelude.{◌==◌, ◌&&◌, ◌||◌, not, nat_le, decimal, codes, if◌then◌else◌}
use Rattle.std.specs.List.{list_any, list_all}
use Rattle.std.proofs.lemmas.Bool.Decides.{nat_tests}
use Rattle.rsct_packet.specs.Lists.{is_empty}
use Rattle.rsct_packet.specs.Text.{name_byte, is_name_of}
use Rattle.group_attr.specs.declared.attrs.Attrs.{Attrs}
use Rattle.group_attr.specs.declared.attrs.Phases.{Phases}
use Rattle.group_attr.specs.declared.attrs.Phases.TheVariants.{One, Many}
use Rattle.group_attr.specs.declared.attrs.Batch.{Batch}
use Rattle.group_attr.specs.declared.attrs.Batch.TheVariants.{Neither, Joins, Failures, Both}
use Rattle.group_attr.specs.declared.attrs.DefaultVote.{DefaultVote}
use Rattle.group_attr.specs.declared.attrs.DefaultVote.TheVariants as default_vote
use Rattle.group_attr.specs.Attrs.{empty_attrs}
use Rattle.value_words.specs.Words.{◌>>=◌, split_on, words_in, chosen}
use Rattle.value_words.proofs.NameLaws.{name_is_word}
use Rattle.entry_words.specs.declared.attrs.AttrKey.{AttrKey}
use Rattle.entry_words.specs.declared.attrs.AttrKey.TheVariants as key
use Rattle.entry_words.specs.Words.{every_key, attr_row, phases_value, batch_value, default_value, limit_value, key_number, key_word, before_equals, after_equals, attrs_from, attr_words, phases_word, batch_word, default_word}
use Rattle.entry_words.specs.Attrs.{new_key, attr_step}
use Rattle.entry_words.specs.Wording.{attr_value_text, attr_text, attrs_text}
use Rattle.entry_words.proofs.AttrLaws.{attr_more}
use Rattle.word_laws.specs.Entries.{is_source_len}
use Rattle.word_laws.specs.Ranges.{is_u16, is_source, are_attrs}
use Rattle.word_laws.specs.Spelled.{behind, attr_value_words, attr_spelled, attrs_words}
use Rattle.word_laws.specs.Values.{u16_word}
use Rattle.word_laws.proofs.Pieces.{Lacks, lacks_both, EachLacks, split_last, split_first}
use Rattle.word_laws.proofs.ValueLaws.{and_parts, u16_read, u16_lacks, blank}

-- ---- words behind spaces

pub split_behind : (w : List ℕ) (ws : List (List ℕ)) → EachLacks 32 (w ∷ ws) → split_on 32 (w ++ behind ws) ≡ w ∷ ws
unfolding behind
split_behind w [] h = ap (split_on 32) (append-nil w) ∙ split_last 32 w h.0
split_behind w (v ∷ ws) h = split_first 32 w (v ++ behind ws) h.0 ∙ ap (λ z. w ∷ z) (split_behind v ws h.1)

behind_both : (xs ys : List (List ℕ)) → behind (xs ++ ys) ≡ behind xs ++ behind ys
unfolding behind
behind_both [] ys = refl
behind_both (x ∷ xs) ys = ap (λ z. 32 ∷ x ++ z) (behind_both xs ys) ∙ sym (append_assoc (32 ∷ x) (behind xs) (behind ys))

-- two texts that are words behind spaces
pub both_behind : (xs ys : List (List ℕ)) (a b : List ℕ) → a ≡ behind xs → b ≡ behind ys → a ++ b ≡ behind (xs ++ ys)
both_behind xs ys a b e f = rw (e, f) (sym (behind_both xs ys))

pub each_lacks_both : (c : ℕ) (xs ys : List (List ℕ)) → EachLacks c xs → EachLacks c ys → EachLacks c (xs ++ ys)
each_lacks_both c [] ys h k = k
each_lacks_both c (x ∷ xs) ys h k = (h.0, each_lacks_both c xs ys h.1 k)

-- ---- each attribute is one word behind a space, or none

value_is : (k : AttrKey) (v : Option (List ℕ)) → attr_value_text k v ≡ behind (attr_value_words k v)
unfolding behind
value_is k None = refl
value_is k (Some v) = ap (λ z. 32 ∷ z) (append_assoc (attr_row k).word (61 ∷ []) v ∙ sym (append-nil ((attr_row k).word ++ 61 ∷ v)))

attr_is : (a : Attrs) (k : AttrKey) → attr_text a k ≡ behind (attr_spelled a k)
unfolding attr_text attr_spelled
attr_is a k = value_is k ((attr_row k).value a)

each_is : (a : Attrs) (ks : List AttrKey) → flat_map (attr_text a) ks ≡ behind (flat_map (attr_spelled a) ks)
unfolding behind
each_is a [] = refl
each_is a (k ∷ ks) = both_behind (attr_spelled a k) (flat_map (attr_spelled a) ks) (attr_text a k) (flat_map (attr_text a) ks) (attr_is a k) (each_is a ks)

-- the text of attributes is their words, each behind a space
pub attrs_are_words : (a : Attrs) → attrs_text a ≡ behind (attrs_words a)
unfolding attrs_text attrs_words
attrs_are_words a = each_is a every_key

-- ---- what is asked of each of these words: no space in it, some byte, and that it names no length

abbrev pub IsAttr : List ℕ → Type 0
IsAttr w = Lacks 32 w × (is_empty w ≡ false) × (is_source_len w ≡ false)

abbrev pub AreAttrs : List (List ℕ) → Type 0
AreAttrs [] = Unit {0}
AreAttrs (w ∷ ws) = IsAttr w × AreAttrs ws

attrs_both : (xs ys : List (List ℕ)) → AreAttrs xs → AreAttrs ys → AreAttrs (xs ++ ys)
attrs_both [] ys h k = k
attrs_both (x ∷ xs) ys h k = (h.0, attrs_both xs ys h.1 k)

not_true : (t : Bool) → not t ≡ true → t ≡ false
not_true true e = absurd cc
not_true false e = refl

-- by a test of each byte, which computes where the bytes are known
pub lacks_by : (c : ℕ) (w : List ℕ) → list_all (λ x. not (x == c)) w ≡ true → Lacks c w
lacks_by c [] e = tt
lacks_by c (x ∷ xs) e =
    let p = and_parts (not (x == c)) (list_all (λ x. not (x == c)) xs) e in
    (not_true (x == c) p.0, lacks_by c xs p.1)

name_byte_lacks : (b : ℕ) → name_byte b ≡ true → (b == 32) ≡ false
name_byte_lacks b e = grind (arith, nat_tests)

pub name_bytes_lack : (g : List ℕ) → list_all name_byte g ≡ true → Lacks 32 g
name_bytes_lack [] e = tt
name_bytes_lack (b ∷ g) e = let p = and_parts (name_byte b) (list_all name_byte g) e in (name_byte_lacks b p.0, name_bytes_lack g p.1)

name_parts : (a b c : Bool) → (a && b && c) ≡ true → c ≡ true
name_parts true true true e = refl
name_parts true true false e = absurd cc
name_parts true false c e = absurd cc
name_parts false b c e = absurd cc

pub named_lacks : (g : List ℕ) → is_name_of g ≡ true → Lacks 32 g
named_lacks g e = name_bytes_lack g (name_parts (nat_le 1 (length g)) (nat_le (length g) 32) (list_all name_byte g) e)

attrs_parts : (a : Attrs) → are_attrs a ≡ true → (is_u16 a.limit ≡ true) × (is_u16 a.source_limit ≡ true) × (is_source a.source ≡ true)
unfolding are_attrs
attrs_parts a e =
    let p = and_parts (is_u16 a.limit) (is_u16 a.source_limit && is_source a.source) e in
    let q = and_parts (is_u16 a.source_limit) (is_source a.source) p.1 in
    (p.0, q.0, q.1)

-- no space is in the value, where there is one
abbrev ValueLacks : Option (List ℕ) → Type 0
ValueLacks None = Unit {0}
ValueLacks (Some v) = Lacks 32 v

phases_lack : (x : Phases) → ValueLacks (phases_value x)
unfolding phases_value
phases_lack One = tt
phases_lack Many = lacks_by 32 (codes "n") refl

batch_lack : (x : Batch) → ValueLacks (batch_value x)
unfolding batch_value
batch_lack Neither = tt
batch_lack Joins = lacks_by 32 (codes "joins") refl
batch_lack Failures = lacks_by 32 (codes "failures") refl
batch_lack Both = lacks_by 32 (codes "both") refl

default_lack : (x : DefaultVote) → ValueLacks (default_value x)
unfolding default_value
default_lack default_vote.Approve = tt
default_lack default_vote.Reject = lacks_by 32 (codes "reject") refl

limit_lack_if : (t : Bool) (n : ℕ) → is_u16 n ≡ true → ValueLacks (if t then None else Some (decimal n))
limit_lack_if true n e = tt
limit_lack_if false n e = u16_lacks 32 n blank.0 e

limit_lack : (n : ℕ) → is_u16 n ≡ true → ValueLacks (limit_value n)
unfolding limit_value
limit_lack n e = limit_lack_if (n == 0) n e

source_lack : (g : Option (List ℕ)) → is_source g ≡ true → ValueLacks g
unfolding is_source
source_lack None e = tt
source_lack (Some g) e = named_lacks g e

value_lacks : (a : Attrs) → are_attrs a ≡ true → (k : AttrKey) → ValueLacks ((attr_row k).value a)
unfolding attr_row
value_lacks a e key.Phases = phases_lack a.phases
value_lacks a e key.Batch = batch_lack a.batch
value_lacks a e key.Default = default_lack a.default_vote
value_lacks a e key.Limit = limit_lack a.limit (attrs_parts a e).0
value_lacks a e key.Source = source_lack a.source (attrs_parts a e).2
value_lacks a e key.SourcePhases = phases_lack a.source_phases
value_lacks a e key.SourceLimit = limit_lack a.source_limit (attrs_parts a e).1

key_bare : (k : AttrKey) → list_all (λ x. not (x == 32)) (attr_row k).word ≡ true
unfolding attr_row
key_bare key.Phases = refl
key_bare _ = refl

key_says : (k : AttrKey) (v : List ℕ) → (is_empty ((attr_row k).word ++ 61 ∷ v) ≡ false) × (is_source_len ((attr_row k).word ++ 61 ∷ v) ≡ false)
unfolding attr_row is_source_len before_equals
key_says key.Phases v = (refl, refl)
key_says _ v = (refl, refl)

value_attrs : (k : AttrKey) (v : Option (List ℕ)) → ValueLacks v → AreAttrs (attr_value_words k v)
value_attrs k None h = tt
value_attrs k (Some v) h =
    let s = key_says k v in
    ((lacks_both 32 (attr_row k).word (61 ∷ v) (lacks_by 32 (attr_row k).word (key_bare k)) (refl, h), s.0, s.1), tt)

each_attrs : (a : Attrs) → are_attrs a ≡ true → (ks : List AttrKey) → AreAttrs (flat_map (attr_spelled a) ks)
unfolding attr_spelled
each_attrs a e [] = tt
each_attrs a e (k ∷ ks) = attrs_both (attr_spelled a k) (flat_map (attr_spelled a) ks) (value_attrs k ((attr_row k).value a) (value_lacks a e k)) (each_attrs a e ks)

pub attrs_are_attrs : (a : Attrs) → are_attrs a ≡ true → AreAttrs (attrs_words a)
unfolding attrs_words
attrs_are_attrs a e = each_attrs a e every_key

pub attrs_lack : (ws : List (List ℕ)) → AreAttrs ws → EachLacks 32 ws
attrs_lack [] h = tt
attrs_lack (w ∷ ws) h = (h.0.0, attrs_lack ws h.1)

-- ---- word by word

-- an attribute that is not set yet
stepped : (seen : List ℕ) (acc b : Attrs) (w v : List ℕ) (k : AttrKey) → key_word (before_equals w) ≡ Some k → after_equals w ≡ Some v → list_any (λ n. n == key_number k) seen ≡ false → (attr_row k).set acc v ≡ Some b
    → attr_step (record { attrs = acc; seen = seen }) w ≡ Some (record { attrs = b; seen = seen ++ key_number k ∷ [] })
unfolding attr_step new_key ◌>>=◌
stepped seen acc b w v k e f g h = rw (e, g, f, h) refl

step : (seen : List ℕ) (acc b : Attrs) (w v : List ℕ) (k : AttrKey) (ws : List (List ℕ)) → key_word (before_equals w) ≡ Some k → after_equals w ≡ Some v → list_any (λ n. n == key_number k) seen ≡ false → (attr_row k).set acc v ≡ Some b
    → attrs_from seen acc (w ∷ ws) ≡ attrs_from (seen ++ key_number k ∷ []) b ws
step seen acc b w v k ws e f g h =
    sym (attr_more (record { attrs = acc; seen = seen }) (record { attrs = b; seen = seen ++ key_number k ∷ [] }) w (w ∷ ws) ws (attrs_from seen acc (w ∷ ws)) refl (stepped seen acc b w v k e f g h) refl)

-- all these numbers are below
abbrev Below : ℕ → List ℕ → Type 0
Below k [] = Unit {0}
Below k (n ∷ ns) = (n < k) × Below k ns

below_next : (k : ℕ) (ns : List ℕ) → Below k ns → Below (k + 1) ns
below_next k [] h = tt
below_next k (n ∷ ns) h = (omega (arith, h.0), below_next k ns h.1)

below_last : (k : ℕ) (ns : List ℕ) → Below k ns → Below (k + 1) (ns ++ k ∷ [])
below_last k [] h = (omega arith, tt)
below_last k (n ∷ ns) h = (omega (arith, h.0), below_last k ns h.1)

or_both : (a b : Bool) → a ≡ false → b ≡ false → (a || b) ≡ false
or_both a b e f = rw (e, f) refl

below_new : (k : ℕ) (ns : List ℕ) → Below k ns → list_any (λ n. n == k) ns ≡ false
below_new k [] h = refl
below_new k (n ∷ ns) h = or_both (n == k) (list_any (λ n. n == k) ns) (differ n k h.0) (below_new k ns h.1)
  where
    differ : (n k : ℕ) → n < k → (n == k) ≡ false
    differ n k l = grind (arith, nat_tests)

key_found : (k : AttrKey) (v : List ℕ) → (key_word (before_equals ((attr_row k).word ++ 61 ∷ v)) ≡ Some k) × (after_equals ((attr_row k).word ++ 61 ∷ v) ≡ Some v)
unfolding attr_row key_word before_equals after_equals
key_found key.Phases v = (refl, refl)
key_found _ v = (refl, refl)

-- the value sets the attribute, or there is none and it stays
abbrev Sets : Attrs → Attrs → AttrKey → Option (List ℕ) → Type 0
Sets acc b k None = acc ≡ b
Sets acc b k (Some v) = (attr_row k).set acc v ≡ Some b

stage : (seen : List ℕ) (acc b : Attrs) (k : AttrKey) (v : Option (List ℕ)) (rest : List (List ℕ)) (all : Option Attrs) → Below (key_number k) seen → Sets acc b k v
    → ((next : List ℕ) → Below (key_number k + 1) next → attrs_from next b rest ≡ all) → attrs_from seen acc (attr_value_words k v ++ rest) ≡ all
stage seen acc b k None rest all l s go = ap (λ (x : Attrs). attrs_from seen x rest) s ∙ go seen (below_next (key_number k) seen l)
stage seen acc b k (Some v) rest all l s go =
    let f = key_found k v in
    step seen acc b ((attr_row k).word ++ 61 ∷ v) v k rest f.0 f.1 (below_new (key_number k) seen l) s ∙ go (seen ++ key_number k ∷ []) (below_last (key_number k) seen l)

-- the attributes up to one of them
abbrev with_phases : Phases → Attrs
with_phases p = record empty_attrs { phases = p }

abbrev with_batch : Phases → Batch → Attrs
with_batch p b = record (with_phases p) { batch = b }

abbrev with_default : Phases → Batch → DefaultVote → Attrs
with_default p b d = record (with_batch p b) { default_vote = d }

abbrev with_limit : Phases → Batch → DefaultVote → ℕ → Attrs
with_limit p b d n = record (with_default p b d) { limit = n }

abbrev with_source : Phases → Batch → DefaultVote → ℕ → Option (List ℕ) → Attrs
with_source p b d n g = record (with_limit p b d n) { source = g }

abbrev with_source_phases : Phases → Batch → DefaultVote → ℕ → Option (List ℕ) → Phases → Attrs
with_source_phases p b d n g q = record (with_source p b d n g) { source_phases = q }

abbrev with_all : Phases → Batch → DefaultVote → ℕ → Option (List ℕ) → Phases → ℕ → Attrs
with_all p b d n g q m = record (with_source_phases p b d n g q) { source_limit = m }

phases_set : (p : Phases) → Sets empty_attrs (with_phases p) key.Phases (phases_value p)
unfolding phases_value attr_row phases_word chosen
phases_set One = refl
phases_set Many = refl

batch_set : (p : Phases) (b : Batch) → Sets (with_phases p) (with_batch p b) key.Batch (batch_value b)
unfolding batch_value attr_row batch_word chosen
batch_set p Neither = refl
batch_set p Joins = refl
batch_set p Failures = refl
batch_set p Both = refl

default_set : (p : Phases) (b : Batch) (d : DefaultVote) → Sets (with_batch p b) (with_default p b d) key.Default (default_value d)
unfolding default_value attr_row default_word chosen
default_set p b default_vote.Approve = refl
default_set p b default_vote.Reject = refl

is_zero : (n : ℕ) → (n == 0) ≡ true → 0 ≡ n
is_zero n e = sym (grind (arith, nat_tests))

limit_word : (acc : Attrs) (n : ℕ) → is_u16 n ≡ true → (attr_row key.Limit).set acc (decimal n) ≡ Some (record acc { limit = n })
unfolding attr_row u16_word
limit_word acc n e = let r = u16_read n e in rw r refl

limit_set_if : (p : Phases) (b : Batch) (d : DefaultVote) (n : ℕ) (t : Bool) → (n == 0) ≡ t → is_u16 n ≡ true → Sets (with_default p b d) (with_limit p b d n) key.Limit (if t then None else Some (decimal n))
limit_set_if p b d n true z e = ap (with_limit p b d) (is_zero n z)
limit_set_if p b d n false z e = limit_word (with_default p b d) n e

limit_set : (p : Phases) (b : Batch) (d : DefaultVote) (n : ℕ) → is_u16 n ≡ true → Sets (with_default p b d) (with_limit p b d n) key.Limit (limit_value n)
unfolding limit_value
limit_set p b d n e = limit_set_if p b d n (n == 0) refl e

source_word : (acc : Attrs) (g : List ℕ) → is_name_of g ≡ true → (attr_row key.Source).set acc g ≡ Some (record acc { source = Some g })
unfolding attr_row
source_word acc g e = let r = name_is_word g e in rw r refl

source_set : (p : Phases) (b : Batch) (d : DefaultVote) (n : ℕ) (g : Option (List ℕ)) → is_source g ≡ true → Sets (with_limit p b d n) (with_source p b d n g) key.Source g
unfolding is_source
source_set p b d n None e = refl
source_set p b d n (Some g) e = source_word (with_limit p b d n) g e

source_phases_set : (p : Phases) (b : Batch) (d : DefaultVote) (n : ℕ) (g : Option (List ℕ)) (q : Phases) → Sets (with_source p b d n g) (with_source_phases p b d n g q) key.SourcePhases (phases_value q)
unfolding phases_value attr_row phases_word chosen
source_phases_set p b d n g One = refl
source_phases_set p b d n g Many = refl

source_limit_word : (acc : Attrs) (n : ℕ) → is_u16 n ≡ true → (attr_row key.SourceLimit).set acc (decimal n) ≡ Some (record acc { source_limit = n })
unfolding attr_row u16_word
source_limit_word acc n e = let r = u16_read n e in rw r refl

source_limit_set_if : (p : Phases) (b : Batch) (d : DefaultVote) (n : ℕ) (g : Option (List ℕ)) (q : Phases) (m : ℕ) (t : Bool) → (m == 0) ≡ t → is_u16 m ≡ true
    → Sets (with_source_phases p b d n g q) (with_all p b d n g q m) key.SourceLimit (if t then None else Some (decimal m))
source_limit_set_if p b d n g q m true z e = ap (with_all p b d n g q) (is_zero m z)
source_limit_set_if p b d n g q m false z e = source_limit_word (with_source_phases p b d n g q) m e

source_limit_set : (p : Phases) (b : Batch) (d : DefaultVote) (n : ℕ) (g : Option (List ℕ)) (q : Phases) (m : ℕ) → is_u16 m ≡ true
    → Sets (with_source_phases p b d n g q) (with_all p b d n g q m) key.SourceLimit (limit_value m)
unfolding limit_value
source_limit_set p b d n g q m e = source_limit_set_if p b d n g q m (m == 0) refl e

no_more : (next : List ℕ) (b : Attrs) → attrs_from next b [] ≡ Some b
unfolding attrs_from
no_more next b = refl

-- the words of attributes are read
pub attrs_read : (a : Attrs) → are_attrs a ≡ true → attr_words (attrs_words a) ≡ Some a
unfolding attr_words attrs_words attr_spelled attr_row key_number
attrs_read a e =
    let h = attrs_parts a e in
    stage [] empty_attrs (with_phases a.phases) key.Phases (phases_value a.phases) _ (Some a) tt (phases_set a.phases)
    (λ s1 l1. stage s1 (with_phases a.phases) (with_batch a.phases a.batch) key.Batch (batch_value a.batch) _ (Some a) l1 (batch_set a.phases a.batch)
    (λ s2 l2. stage s2 (with_batch a.phases a.batch) (with_default a.phases a.batch a.default_vote) key.Default (default_value a.default_vote) _ (Some a) l2 (default_set a.phases a.batch a.default_vote)
    (λ s3 l3. stage s3 (with_default a.phases a.batch a.default_vote) (with_limit a.phases a.batch a.default_vote a.limit) key.Limit (limit_value a.limit) _ (Some a) l3 (limit_set a.phases a.batch a.default_vote a.limit h.0)
    (λ s4 l4. stage s4 (with_limit a.phases a.batch a.default_vote a.limit) (with_source a.phases a.batch a.default_vote a.limit a.source) key.Source a.source _ (Some a) l4 (source_set a.phases a.batch a.default_vote a.limit a.source h.2)
    (λ s5 l5. stage s5 (with_source a.phases a.batch a.default_vote a.limit a.source) (with_source_phases a.phases a.batch a.default_vote a.limit a.source a.source_phases) key.SourcePhases (phases_value a.source_phases) _ (Some a) l5 (source_phases_set a.phases a.batch a.default_vote a.limit a.source a.source_phases)
    (λ s6 l6. stage s6 (with_source_phases a.phases a.batch a.default_vote a.limit a.source a.source_phases) a key.SourceLimit (limit_value a.source_limit) [] (Some a) l6 (source_limit_set a.phases a.batch a.default_vote a.limit a.source a.source_phases a.source_limit h.1)
    (λ s7 l7. no_more s7 a)))))))

-- ---- the text of attributes

all_filled : (ws : List (List ℕ)) → AreAttrs ws → filter (λ w. not (is_empty w)) ws ≡ ws
all_filled [] h = refl
all_filled (w ∷ ws) h = kept (is_empty w) w ws h.0.1 (all_filled ws h.1)
  where
    kept : (t : Bool) (w : List ℕ) (ws : List (List ℕ)) → t ≡ false → filter (λ w. not (is_empty w)) ws ≡ ws → (if not t then w ∷ filter (λ w. not (is_empty w)) ws else filter (λ w. not (is_empty w)) ws) ≡ w ∷ ws
    kept true w ws e f = absurd cc
    kept false w ws e f = ap (λ z. w ∷ z) f

words_behind : (ws : List (List ℕ)) → AreAttrs ws → words_in (behind ws) ≡ ws
unfolding words_in behind split_on
words_behind [] h = refl
words_behind (w ∷ ws) h = ap (λ ps. filter (λ w. not (is_empty w)) ([] ∷ ps)) (split_behind w ws (h.0.0, attrs_lack ws h.1)) ∙ all_filled (w ∷ ws) h

pub attrs_back : (a : Attrs) → are_attrs a ≡ true → attr_words (words_in (attrs_text a)) ≡ Some a
attrs_back a e = ap (λ w. attr_words (words_in w)) (attrs_are_words a) ∙ (ap attr_words (words_behind (attrs_words a) (attrs_are_attrs a e)) ∙ attrs_read a e)
