-- Attributes are read word by word.
use Rattle.std.proofs.Common.{◌≡◌, ℕ, ◌+◌, ◌<◌, ◌≤◌, ◌==◌, ◌||◌, ◌++◌, Bool, true, false, List, [], ◌∷◌, length, take, get_or, flat_map, append_assoc, append-nil, Option, Some, None, refl, sym, ◌∙◌, ap, if◌then◌else◌}
use Rattle.std.specs.List.{list_any}
use Rattle.std.proofs.lemmas.List.{take_more, take_all}
use Rattle.std.proofs.lemmas.List.Concat.{flat_map-append}
use denote.Enum.Declared.{tag_of}
use Rattle.entry_words.specs.contracts.attrs.AttrKey.{the_type}
use Rattle.entry_words.specs.declared.attrs.AttrKey.TheVariants as key
use Rattle.entry_words.specs.Wording.{attr_text, attrs_text}
use Rattle.group_attr.specs.declared.attrs.Attrs.{Attrs}
use Rattle.value_words.specs.Words.{◌>>=◌}
use Rattle.entry_words.specs.Words.{every_key, key_number, key_word, attr_row, before_equals, after_equals, attrs_from}
use Rattle.entry_words.specs.declared.attrs.AttrKey.{AttrKey}
use Rattle.entry_words.specs.declared.attrs.AttrsRead.{AttrsRead}
use Rattle.value_words.specs.declared.faults.WordFault.{WordFault}
use Rattle.value_words.specs.declared.faults.WordFault.TheVariants as word_fault
use Rattle.value_words.specs.Answers.{FailsWord}
use Rattle.entry_words.specs.Attrs.{new_key, attr_step}

-- the number that the code has for an attribute is its place
pub number_by_tag : (k : AttrKey) → tag_of the_type k ≡ key_number k
unfolding key_number attr_row
number_by_tag k = elim k as (λ k. tag_of the_type k ≡ key_number k) [ key.Phases ↦ refl | _ ↦ refl ]

-- ---- written, one after another

pub none_written : (a : Attrs) (t : List ℕ) → t ≡ t ++ flat_map (attr_text a) []
none_written a t = sym (append-nil t)

pub one_written : (a : Attrs) (i : ℕ) (d : AttrKey) (ks : List AttrKey) (t all : List ℕ) → i < length ks → all ≡ (t ++ flat_map (attr_text a) (take i ks)) ++ attr_text a (get_or ks i d)
    → all ≡ t ++ flat_map (attr_text a) (take (i + 1) ks)
one_written a i d ks t all h e =
    let more : flat_map (attr_text a) (take (i + 1) ks) ≡ flat_map (attr_text a) (take i ks) ++ attr_text a (get_or ks i d) =
    ap (flat_map (attr_text a)) (take_more ks i d h)
    ∙ (flat_map-append (attr_text a) (take i ks) (get_or ks i d ∷ []) ∙ ap (λ z. flat_map (attr_text a) (take i ks) ++ z) (append-nil (attr_text a (get_or ks i d))))
    in
    e ∙ (append_assoc t (flat_map (attr_text a) (take i ks)) (attr_text a (get_or ks i d)) ∙ ap (λ z. t ++ z) (sym more))

pub all_written : (a : Attrs) (i : ℕ) (ks : List AttrKey) (t all : List ℕ) → length ks ≤ i → ks ≡ every_key → all ≡ t ++ flat_map (attr_text a) (take i ks) → all ≡ t ++ attrs_text a
unfolding attrs_text
all_written a i ks t all h is e = e ∙ ap (λ z. t ++ flat_map (attr_text a) z) (take_all i ks h ∙ is)

-- ---- read, one after another

-- the same numbers, in whatever order
abbrev pub SameSeen : List ℕ → List ℕ → Type 0
SameSeen s t = (k : ℕ) → list_any (λ n. n == k) s ≡ list_any (λ n. n == k) t

same_set : (s t : List ℕ) (k : ℕ) (ws : List (List ℕ)) (r : Option Attrs) → ((b : Attrs) → attrs_from (k ∷ s) b ws ≡ attrs_from (k ∷ t) b ws)
    → ◌≡◌ {A = Option Attrs} (elim r [ None ↦ None | Some b ↦ attrs_from (k ∷ s) b ws ]) (elim r [ None ↦ None | Some b ↦ attrs_from (k ∷ t) b ws ])
same_set s t k ws None go = refl
same_set s t k ws (Some b) go = go b

same_test : (p q : Bool) (x y : Option Attrs) → p ≡ q → x ≡ y → ◌≡◌ {A = Option Attrs} (elim p [ true ↦ None | false ↦ x ]) (elim q [ true ↦ None | false ↦ y ])
same_test true true x y e f = refl
same_test true false x y e f = absurd cc
same_test false true x y e f = absurd cc
same_test false false x y e f = f

same_word : (s t : List ℕ) (a : Attrs) (ws : List (List ℕ)) (v : Option (List ℕ)) (k : Option AttrKey) → SameSeen s t
    → ((j : ℕ) (b : Attrs) → attrs_from (j ∷ s) b ws ≡ attrs_from (j ∷ t) b ws)
    → ◌≡◌ {A = Option Attrs} (elim k [
      | None ↦ None
      | Some k ↦ elim v [
        | None ↦ None
        | Some v ↦ elim (list_any (λ n. n == key_number k) s) [
          | true ↦ None
          | false ↦ elim ((attr_row k).set a v) [ None ↦ None | Some b ↦ attrs_from (key_number k ∷ s) b ws ]
        ]
      ]
    ]) (elim k [
      | None ↦ None
      | Some k ↦ elim v [
        | None ↦ None
        | Some v ↦ elim (list_any (λ n. n == key_number k) t) [
          | true ↦ None
          | false ↦ elim ((attr_row k).set a v) [ None ↦ None | Some b ↦ attrs_from (key_number k ∷ t) b ws ]
        ]
      ]
    ])
same_word s t a ws v None h go = refl
same_word s t a ws None (Some k) h go = refl
same_word s t a ws (Some v) (Some k) h go =
    same_test (list_any (λ n. n == key_number k) s) (list_any (λ n. n == key_number k) t) _ _ (h (key_number k)) (same_set s t (key_number k) ws ((attr_row k).set a v) (go (key_number k)))

more_same : (s t : List ℕ) (j : ℕ) → SameSeen s t → SameSeen (j ∷ s) (j ∷ t)
more_same s t j h k = rw (h k) refl

attrs_same : (s t : List ℕ) (a : Attrs) (ws : List (List ℕ)) → SameSeen s t → attrs_from s a ws ≡ attrs_from t a ws
unfolding attrs_from
attrs_same s t a [] h = refl
attrs_same s t a (w ∷ ws) h =
    same_word s t a ws (after_equals w) (key_word (before_equals w)) h (λ j b. attrs_same (j ∷ s) (j ∷ t) b ws (more_same s t j h))

or_swap : (a b c : Bool) → (a || (b || c)) ≡ (b || (a || c))
or_swap true true c = refl
or_swap true false c = refl
or_swap false b c = refl

any_last : (p : ℕ → Bool) (x : ℕ) (s : List ℕ) → (p x || list_any p s) ≡ list_any p (s ++ x ∷ [])
any_last p x [] = refl
any_last p x (y ∷ ys) = or_swap (p x) (p y) (list_any p ys) ∙ ap (λ r. p y || r) (any_last p x ys)

last_same : (s : List ℕ) (j : ℕ) → SameSeen (j ∷ s) (s ++ j ∷ [])
last_same s j k = any_last (λ n. n == k) j s

-- what is read after a word
abbrev pub attrs_after : Option AttrsRead → List (List ℕ) → Option Attrs
attrs_after None ws = None
attrs_after (Some r) ws = attrs_from r.seen r.attrs ws

step_set : (r : AttrsRead) (k : ℕ) (ws : List (List ℕ)) (x : Option Attrs)
    → ◌≡◌ {A = Option Attrs} (elim x [ None ↦ None | Some b ↦ attrs_from (k ∷ r.seen) b ws ]) (attrs_after (x >>= λ b. Some (record { attrs = b; seen = r.seen ++ k ∷ [] })) ws)
unfolding ◌>>=◌
step_set r k ws None = refl
step_set r k ws (Some b) = attrs_same (k ∷ r.seen) (r.seen ++ k ∷ []) b ws (last_same r.seen k)

step_at : (r : AttrsRead) (ws : List (List ℕ)) (k : AttrKey) (v : Option (List ℕ)) (t : Bool)
    → ◌≡◌ {A = Option Attrs} (elim v [
      | None ↦ None
      | Some v ↦ elim t [ true ↦ None | false ↦ elim ((attr_row k).set r.attrs v) [ None ↦ None | Some b ↦ attrs_from (key_number k ∷ r.seen) b ws ] ]
    ]) (attrs_after ((if t then None else Some k) >>= λ k. v >>= λ v. (attr_row k).set r.attrs v >>= λ b. Some (record { attrs = b; seen = r.seen ++ key_number k ∷ [] })) ws)
unfolding ◌>>=◌
step_at r ws k None true = refl
step_at r ws k None false = refl
step_at r ws k (Some v) true = refl
step_at r ws k (Some v) false = step_set r (key_number k) ws ((attr_row k).set r.attrs v)

step_word : (r : AttrsRead) (ws : List (List ℕ)) (v : Option (List ℕ)) (k : Option AttrKey)
    → ◌≡◌ {A = Option Attrs} (elim k [
      | None ↦ None
      | Some k ↦ elim v [
        | None ↦ None
        | Some v ↦ elim (list_any (λ n. n == key_number k) r.seen) [
          | true ↦ None
          | false ↦ elim ((attr_row k).set r.attrs v) [ None ↦ None | Some b ↦ attrs_from (key_number k ∷ r.seen) b ws ]
        ]
      ]
    ]) (attrs_after ((k >>= λ k. if list_any (λ n. n == key_number k) r.seen then None else Some k) >>= λ k. v >>= λ v. (attr_row k).set r.attrs v >>= λ b. Some (record { attrs = b; seen = r.seen ++ key_number k ∷ [] })) ws)
unfolding ◌>>=◌
step_word r ws v None = refl
step_word r ws v (Some k) = step_at r ws k v (list_any (λ n. n == key_number k) r.seen)

attr_cons : (r : AttrsRead) (w : List ℕ) (ws : List (List ℕ)) → attrs_from r.seen r.attrs (w ∷ ws) ≡ attrs_after (attr_step r w) ws
unfolding attrs_from attr_step new_key
attr_cons r w ws = step_word r ws (after_equals w) (key_word (before_equals w))

-- a word that sets an attribute
pub attr_more : (r q : AttrsRead) (w : List ℕ) (vs ws : List (List ℕ)) (all : Option Attrs) → vs ≡ w ∷ ws → attr_step r w ≡ Some q
    → attrs_from r.seen r.attrs vs ≡ all → attrs_from q.seen q.attrs ws ≡ all
attr_more r q w vs ws all e f h =
    let g : attrs_from r.seen r.attrs vs ≡ attrs_from q.seen q.attrs ws =
    ap (λ us. attrs_from r.seen r.attrs us) e ∙ (attr_cons r w ws ∙ ap (λ x. attrs_after x ws) f)
    in
    sym g ∙ h

-- a word that sets none
pub attr_fails : (r : AttrsRead) (w : List ℕ) (vs ws : List (List ℕ)) (e : WordFault) (all : Option Attrs) → vs ≡ w ∷ ws → FailsWord e (attr_step r w)
    → attrs_from r.seen r.attrs vs ≡ all → FailsWord e all
attr_fails r w vs ws word_fault.NoMemory all e f h = tt
attr_fails r w vs ws word_fault.BadWord all e f h =
    sym h ∙ (ap (λ us. attrs_from r.seen r.attrs us) e ∙ (attr_cons r w ws ∙ ap (λ x. attrs_after x ws) f))

-- no word more
pub attr_done : (r : AttrsRead) (vs : List (List ℕ)) (all : Option Attrs) → vs ≡ [] → attrs_from r.seen r.attrs vs ≡ all → all ≡ Some r.attrs
unfolding attrs_from
attr_done r vs all e h = sym h ∙ ap (λ us. attrs_from r.seen r.attrs us) e
