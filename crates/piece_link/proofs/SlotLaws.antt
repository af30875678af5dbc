-- Parts by their slots: what a slot filled makes of them, as contracts see it.
use Rattle.std.proofs.Common.{◌≡◌, ◌≢◌, ℕ, zero, suc, ◌+◌, ◌-◌, ◌≤◌, ◌<◌, Bool, true, false, cond, Option, Some, None, ◌⊎◌, max, List, [], ◌∷◌, ◌++◌, length, take, drop, inl, inr, refl, sym, ◌∙◌, ap, subst, arith, append-nil, length-append, length-drop}
use Rattle.std.specs.Prelude.{is_some, option_map, ◌==◌, nat_lt}
use Rattle.std.specs.declared.cmp.Ordering.{Ordering}
use Rattle.std.specs.declared.cmp.Ordering.TheVariants.{Less, Equal, Greater}
use Rattle.std.specs.Ordering.{nat_cmp, is_eq, match_ordering, MatchOrdering}
use Rattle.std.specs.BTreeMap.{insert_entry, is_at}
use Rattle.std.specs.Map.{lookup}
use Rattle.std.proofs.lemmas.Cmp.{ranked}
use Rattle.std.proofs.lemmas.Bool.{cases_lt}
use Rattle.std.proofs.lemmas.Bool.Decides.{nat_tests}
use Rattle.std.proofs.lemmas.Grind.{flat_map-append}
use Rattle.std.proofs.lemmas.List.{take-append-le, drop-append-le}
use Rattle.std.proofs.Math.Seq.{drop-append_seam, take-length}
use Rattle.piece_link.specs.declared.slots.Place.{Place}
use Rattle.piece_link.specs.declared.slots.Slots.{Slots}
use Rattle.piece_link.specs.Slots.{slot_at, data_at, text_at, part_if, parts_below, text_if, joined_below, with_text, AreHeld}
use Rattle.piece_link.specs.Joining.{Parts, has_part, with_part, whole_of}

-- ---- numbers compared

at_itself : (i : ℕ) → is_at (nat_cmp i) i ≡ true
at_itself i =
    let below : nat_lt i i ≡ false = grind (arith, nat_tests) in
    let same : (i == i) ≡ true = grind (arith, nat_tests) in
    rw (below, same) refl

at_other_by : (o : Ordering) (i j : ℕ) → MatchOrdering o (i < j) (i ≡ j) (j < i) → i ≢ j → is_eq o ≡ false
at_other_by Less i j m ne = refl
at_other_by Equal i j m ne = absurd (ne m)
at_other_by Greater i j m ne = refl

at_other : (i j : ℕ) → i ≢ j → is_at (nat_cmp i) j ≡ false
at_other i j ne = at_other_by (nat_cmp i j) i j (ranked i j (nat_cmp i j) refl) ne

above_by : (o : Ordering) (i j : ℕ) → MatchOrdering o (i < j) (i ≡ j) (j < i) → j < i → o ≡ Greater
above_by Less i j m lt = absurd (omega arith)
above_by Equal i j m lt = absurd (omega arith)
above_by Greater i j m lt = refl

above : (i j : ℕ) → j < i → nat_cmp i j ≡ Greater
above i j lt = above_by (nat_cmp i j) i j (ranked i j (nat_cmp i j) refl) lt

below_by : (o : Ordering) (i j : ℕ) → MatchOrdering o (i < j) (i ≡ j) (j < i) → i < j → o ≡ Less
below_by Less i j m lt = refl
below_by Equal i j m lt = absurd (omega arith)
below_by Greater i j m lt = absurd (omega arith)

below : (i j : ℕ) → i < j → nat_cmp i j ≡ Less
below i j lt = below_by (nat_cmp i j) i j (ranked i j (nat_cmp i j) refl) lt

same_or_not : (m n : ℕ) → (m ≡ n) ⊎ (m ≢ n)
same_or_not m n = elim (cases_lt m n) [
  | inl less ↦ inr (omega arith)
  | inr from ↦ elim (cases_lt n m) [
    | inl more ↦ inr (omega arith)
    | inr same ↦ inl (omega arith)
  ]
]

-- ---- parts whose indices are below a number

abbrev pub KeysBelow : ℕ → Parts → Type 0
KeysBelow n [] = Unit {0}
KeysBelow n (p ∷ ps) = (p.0 < n) × KeysBelow n ps

keys_more : (n m : ℕ) (ps : Parts) → n ≤ m → KeysBelow n ps → KeysBelow m ps
keys_more n m [] le h = tt
keys_more n m (p ∷ ps) le h = let lt : p.0 < n = h.0 in (omega arith, keys_more n m ps le h.1)

keys_append : (n : ℕ) (ps qs : Parts) → KeysBelow n ps → KeysBelow n qs → KeysBelow n (ps ++ qs)
keys_append n [] qs h k = k
keys_append n (p ∷ ps) qs h k = (h.0, keys_append n ps qs h.1 k)

keys_if : (n : ℕ) (o : Option (List ℕ)) → KeysBelow (suc n) (part_if n o)
keys_if n None = tt
keys_if n (Some text) = (omega arith, tt)

keys_below : (n : ℕ) (f : ℕ → Option (List ℕ)) → KeysBelow n (parts_below n f)
unfolding parts_below
keys_below zero f = tt
keys_below (suc n) f = keys_append (suc n) (parts_below n f) (part_if n (f n)) (keys_more n (suc n) (parts_below n f) (omega arith) (keys_below n f)) (keys_if n (f n))

-- ---- an entry inserted

insert_above : (ps qs : Parts) (k : ℕ) (text : List ℕ) → KeysBelow k ps → insert_entry nat_cmp (ps ++ qs) k text ≡ ps ++ insert_entry nat_cmp qs k text
insert_above [] qs k text h = refl
insert_above (p ∷ ps) qs k text h = let lt : p.0 < k = h.0 in rw (above k p.0 lt) (ap (λ xs. p ∷ xs) (insert_above ps qs k text h.1))

insert_before_by : (o : Ordering) (p q : ℕ × List ℕ) (ps : Parts) (k : ℕ) (text : List ℕ)
    → insert_entry nat_cmp (ps ++ q ∷ []) k text ≡ insert_entry nat_cmp ps k text ++ q ∷ []
    → match_ordering o ((k, text) ∷ p ∷ (ps ++ q ∷ [])) ((p.0, text) ∷ (ps ++ q ∷ [])) (p ∷ insert_entry nat_cmp (ps ++ q ∷ []) k text)
    ≡ match_ordering o ((k, text) ∷ p ∷ ps) ((p.0, text) ∷ ps) (p ∷ insert_entry nat_cmp ps k text) ++ q ∷ []
insert_before_by Less p q ps k text rest = refl
insert_before_by Equal p q ps k text rest = refl
insert_before_by Greater p q ps k text rest = ap (λ xs. p ∷ xs) rest

insert_before : (ps : Parts) (q : ℕ × List ℕ) (k : ℕ) (text : List ℕ) → k < q.0 → insert_entry nat_cmp (ps ++ q ∷ []) k text ≡ insert_entry nat_cmp ps k text ++ q ∷ []
insert_before [] q k text lt = rw (below k q.0 lt) refl
insert_before (p ∷ ps) q k text lt = insert_before_by (nat_cmp k p.0) p q ps k text (insert_before ps q k text lt)

insert_if : (ps : Parts) (n k : ℕ) (o : Option (List ℕ)) (text : List ℕ) → k < n → insert_entry nat_cmp (ps ++ part_if n o) k text ≡ insert_entry nat_cmp ps k text ++ part_if n o
insert_if ps n k None text lt = rw (append-nil ps) (sym (append-nil (insert_entry nat_cmp ps k text)))
insert_if ps n k (Some t) text lt = insert_before ps (n, t) k text lt

-- ---- parts of functions that agree

pub parts_same : (n : ℕ) (f g : ℕ → Option (List ℕ)) → ((i : ℕ) → i < n → g i ≡ f i) → parts_below n g ≡ parts_below n f
unfolding parts_below
parts_same zero f g e = refl
parts_same (suc n) f g e = rw (parts_same n f g (λ i lt. e i (omega arith)), e n (omega arith)) refl

pub joined_same : (n : ℕ) (f g : ℕ → Option (List ℕ)) → ((i : ℕ) → i < n → g i ≡ f i) → joined_below n g ≡ joined_below n f
unfolding joined_below
joined_same zero f g e = refl
joined_same (suc n) f g e = rw (joined_same n f g (λ i lt. e i (omega arith)), e n (omega arith)) refl

-- past the last part there is none
parts_past : (k n : ℕ) (f : ℕ → Option (List ℕ)) → ((i : ℕ) → n ≤ i → f i ≡ None) → parts_below (k + n) f ≡ parts_below n f
unfolding parts_below
parts_past zero n f none = let e : zero + n ≡ n = omega arith in ap (λ k. parts_below k f) e
parts_past (suc k) n f none =
    let e : suc k + n ≡ suc (k + n) = omega arith in
    let last : f (k + n) ≡ None = none (k + n) (omega arith) in
    rw (e, last) (append-nil (parts_below (k + n) f) ∙ parts_past k n f none)

pub parts_up_to : (n m : ℕ) (f : ℕ → Option (List ℕ)) → n ≤ m → ((i : ℕ) → n ≤ i → f i ≡ None) → parts_below m f ≡ parts_below n f
parts_up_to n m f le none = let e : m ≡ (m - n) + n = omega arith in subst (λ (k : ℕ). parts_below k f ≡ parts_below n f) (sym e) (parts_past (m - n) n f none)

if_whole : (n : ℕ) (o : Option (List ℕ)) → whole_of (part_if n o) ≡ text_if o
if_whole n None = refl
if_whole n (Some text) = append-nil text

pub joined_is : (n : ℕ) (f : ℕ → Option (List ℕ)) → whole_of (parts_below n f) ≡ joined_below n f
unfolding parts_below joined_below
joined_is zero f = refl
joined_is (suc n) f = flat_map-append (λ (e : ℕ × List ℕ). e.1) (parts_below n f) (part_if n (f n)) ∙ (ap (λ xs. xs ++ whole_of (part_if n (f n))) (joined_is n f) ∙ ap (λ xs. joined_below n f ++ xs) (if_whole n (f n)))

-- ---- a slot filled

pub record Fills (f g : ℕ → Option (List ℕ)) (index : ℕ) (text : List ℕ) : Type 0 where
  pub none : f index ≡ None
  pub here : g index ≡ Some text
  pub others : (i : ℕ) → i ≢ index → g i ≡ f i

fill_below : (n index : ℕ) (f g : ℕ → Option (List ℕ)) (text : List ℕ) → Fills f g index text → index < n → parts_below n g ≡ insert_entry nat_cmp (parts_below n f) index text
unfolding parts_below
fill_below zero index f g text h lt = absurd (omega arith)
fill_below (suc n) index f g text h lt = elim (cases_lt index n) [
  | inl below_n ↦
      let ne : n ≢ index = omega arith in
      rw (h.others n ne, fill_below n index f g text h below_n) (sym (insert_if (parts_below n f) n index (f n) text below_n))
  | inr from_n ↦
      let is : n ≡ index = omega arith in
      let same : parts_below n g ≡ parts_below n f = parts_same n f g (λ i less. h.others i (let ne : i ≢ index = omega arith in ne)) in
      let here : g n ≡ Some text = subst (λ (k : ℕ). g k ≡ Some text) (sym is) h.here in
      let none : f n ≡ None = subst (λ (k : ℕ). f k ≡ None) (sym is) h.none in
      let end : insert_entry nat_cmp (parts_below n f ++ []) n text ≡ parts_below n f ++ (n, text) ∷ [] = insert_above (parts_below n f) [] n text (keys_below n f) in
      rw (here, same, none) (subst (λ (k : ℕ). parts_below n f ++ (n, text) ∷ [] ≡ insert_entry nat_cmp (parts_below n f ++ []) k text) is (sym end))
]

pub filled : (n m index : ℕ) (f g : ℕ → Option (List ℕ)) (text : List ℕ) → Fills f g index text → ((i : ℕ) → n ≤ i → f i ≡ None) → n ≤ m → index < m → parts_below m g ≡ with_part (parts_below n f) index text
filled n m index f g text h none le lt =
    fill_below m index f g text h lt ∙ ap (λ ps. insert_entry nat_cmp ps index text) (parts_up_to n m f le none)

-- filled past all others
pub joined_filled : (n index : ℕ) (f g : ℕ → Option (List ℕ)) (text : List ℕ) → Fills f g index text → ((i : ℕ) → n ≤ i → f i ≡ None) → n ≤ index → joined_below (suc index) g ≡ joined_below n f ++ text
unfolding joined_below
joined_filled n index f g text h none le =
    let same : joined_below index g ≡ joined_below index f = joined_same index f g (λ i less. h.others i (let ne : i ≢ index = omega arith in ne)) in
    let up : joined_below index f ≡ joined_below n f = sym (joined_is index f) ∙ (ap (λ ps. whole_of ps) (parts_up_to n index f le none) ∙ joined_is n f) in
    rw (h.here, same, up) refl

-- ---- a part looked up

lookup_append : (test : ℕ → Bool) (ps qs : Parts) → lookup test ps ≡ None → lookup test (ps ++ qs) ≡ lookup test qs
lookup_append test [] qs e = refl
lookup_append test (p ∷ ps) qs e = elim (test p.0) as (λ b. cond b (Some p.1) (lookup test ps) ≡ None → cond b (Some p.1) (lookup test (ps ++ qs)) ≡ lookup test qs) [
  | true ↦ λ f. absurd cc
  | false ↦ λ f. lookup_append test ps qs f
] e

lookup_front : (test : ℕ → Bool) (ps qs : Parts) → lookup test qs ≡ None → lookup test (ps ++ qs) ≡ lookup test ps
lookup_front test [] qs e = e
lookup_front test (p ∷ ps) qs e = rw (lookup_front test ps qs e) refl

lookup_if : (n index : ℕ) (o : Option (List ℕ)) → index ≢ n → lookup (is_at (nat_cmp index)) (part_if n o) ≡ None
lookup_if n index None ne = refl
lookup_if n index (Some text) ne = rw (at_other index n ne) refl

lookup_here : (n : ℕ) (o : Option (List ℕ)) → lookup (is_at (nat_cmp n)) (part_if n o) ≡ o
lookup_here n None = refl
lookup_here n (Some text) = rw (at_itself n) refl

lookup_past : (n index : ℕ) (f : ℕ → Option (List ℕ)) → n ≤ index → lookup (is_at (nat_cmp index)) (parts_below n f) ≡ None
unfolding parts_below
lookup_past zero index f le = refl
lookup_past (suc n) index f le =
    let ne : index ≢ n = omega arith in
    lookup_front (is_at (nat_cmp index)) (parts_below n f) (part_if n (f n)) (lookup_if n index (f n) ne) ∙ lookup_past n index f (omega arith)

lookup_below : (n index : ℕ) (f : ℕ → Option (List ℕ)) → index < n → lookup (is_at (nat_cmp index)) (parts_below n f) ≡ f index
unfolding parts_below
lookup_below zero index f lt = absurd (omega arith)
lookup_below (suc n) index f lt = elim (cases_lt index n) [
  | inl less ↦
      let ne : index ≢ n = omega arith in
      lookup_front (is_at (nat_cmp index)) (parts_below n f) (part_if n (f n)) (lookup_if n index (f n) ne) ∙ lookup_below n index f less
  | inr from_n ↦
      let is : n ≡ index = omega arith in
      let past : lookup (is_at (nat_cmp index)) (parts_below n f) ≡ None = lookup_past n index f (omega arith) in
      lookup_append (is_at (nat_cmp index)) (parts_below n f) (part_if n (f n)) past
      ∙ subst (λ (k : ℕ). lookup (is_at (nat_cmp k)) (part_if n (f n)) ≡ f k) is (lookup_here n (f n))
]

-- ---- how many

if_few : (n : ℕ) (o : Option (List ℕ)) → length (part_if n o) ≤ 1
if_few n None = omega arith
if_few n (Some text) = omega arith

pub few_below : (n : ℕ) (f : ℕ → Option (List ℕ)) → length (parts_below n f) ≤ n
unfolding parts_below
few_below zero f = omega arith
few_below (suc n) f = omega (arith, length-append (parts_below n f) (part_if n (f n)), few_below n f, if_few n (f n))

one_more_by : (o : Ordering) (p : ℕ × List ℕ) (parts : Parts) (index : ℕ) (text : List ℕ)
    → is_some (cond (is_eq o) (Some p.1) (lookup (is_at (nat_cmp index)) parts)) ≡ false
    → (has_part parts index ≡ false → length (with_part parts index text) ≡ length parts + 1)
    → length (match_ordering o ((index, text) ∷ p ∷ parts) ((p.0, text) ∷ parts) (p ∷ with_part parts index text)) ≡ suc (length parts) + 1
one_more_by Less p parts index text none rest = omega arith
one_more_by Equal p parts index text none rest = absurd cc
one_more_by Greater p parts index text none rest = let e : length (with_part parts index text) ≡ length parts + 1 = rest none in omega arith

pub one_more : (parts : Parts) (index : ℕ) (text : List ℕ) → has_part parts index ≡ false → length (with_part parts index text) ≡ length parts + 1
one_more [] index text none = refl
one_more (p ∷ parts) index text none = one_more_by (nat_cmp index p.0) p parts index text none (one_more parts index text)

-- past all others
pub whole_last : (n index : ℕ) (f : ℕ → Option (List ℕ)) (text : List ℕ) → n ≤ index → whole_of (with_part (parts_below n f) index text) ≡ joined_below n f ++ text
whole_last n index f text le =
    let last : with_part (parts_below n f) index text ≡ parts_below n f ++ (index, text) ∷ [] =
    ap (λ ps. insert_entry nat_cmp ps index text) (sym (append-nil (parts_below n f))) ∙ insert_above (parts_below n f) [] index text (keys_more n index (parts_below n f) le (keys_below n f)) in
    ap (λ ps. whole_of ps) last ∙ (flat_map-append (λ (e : ℕ × List ℕ). e.1) (parts_below n f) ((index, text) ∷ []) ∙ (ap (λ xs. xs ++ (text ++ [])) (joined_is n f) ∙ ap (λ xs. joined_below n f ++ xs) (append-nil text)))

-- ---- what came, by the slots

mapped_some : {A B : Type 0} (h : A → B) (o : Option A) → is_some (option_map h o) ≡ is_some o
mapped_some h None = refl
mapped_some h (Some x) = refl

pub has_below : (s : Slots) (bytes : List ℕ) (end index : ℕ) → index < end → is_some (slot_at s index) ≡ has_part (parts_below end (text_at s bytes)) index
has_below s bytes end index lt = sym (ap (λ o. is_some o) (lookup_below end index (text_at s bytes) lt) ∙ mapped_some (data_at bytes) (slot_at s index))

pub has_past : (s : Slots) (bytes : List ℕ) (end index : ℕ) → end ≤ index → nat_lt index end ≡ has_part (parts_below end (text_at s bytes)) index
has_past s bytes end index le =
    let less : nat_lt index end ≡ false = grind (arith, nat_tests) in
    less ∙ sym (ap (λ o. is_some o) (lookup_past end index (text_at s bytes) le))

none_from : (o : Option Place) → is_some o ≡ false → o ≡ None
none_from None e = refl
none_from (Some p) e = absurd cc

pub not_came : (s : Slots) (bytes : List ℕ) (len end index : ℕ) (in_order : Bool) → AreHeld s bytes len end in_order → has_part (parts_below end (text_at s bytes)) index ≡ false → slot_at s index ≡ None
not_came s bytes len end index in_order h none = elim (cases_lt index end) [
  | inl lt ↦ none_from (slot_at s index) (has_below s bytes end index lt ∙ none)
  | inr le ↦ h.past index le
]

past_texts : (s : Slots) (bytes : List ℕ) (len end : ℕ) (in_order : Bool) → AreHeld s bytes len end in_order → (i : ℕ) → end ≤ i → text_at s bytes i ≡ None
past_texts s bytes len end in_order h i le = ap (λ o. option_map (data_at bytes) o) (h.past i le)

pub few_parts : (s : Slots) (bytes : List ℕ) (len end : ℕ) (in_order : Bool) → AreHeld s bytes len end in_order → len ≤ 4294967296
few_parts s bytes len end in_order h = omega (arith, h.counted, h.few, few_below end (text_at s bytes))

-- ---- a piece added

-- the slots t are s with a place at the index for the text, which is put behind the bytes
pub record Puts (s t : Slots) (bytes more text : List ℕ) (index : ℕ) : Type 0 where
  pub none : slot_at s index ≡ None
  pub start : ℕ
  pub end : ℕ
  pub here : slot_at t index ≡ Some (record { start = start; end = end })
  pub others : (i : ℕ) → i ≢ index → slot_at t i ≡ slot_at s i
  pub starts : start ≡ length bytes
  pub ends : end ≡ length bytes + length text
  pub appended : more ≡ bytes ++ text

data_kept : (bytes text : List ℕ) (p : Place) → p.start ≤ p.end → p.end ≤ length bytes → data_at (bytes ++ text) p ≡ data_at bytes p
data_kept bytes text p le within =
    let from : drop p.start (bytes ++ text) ≡ drop p.start bytes ++ text = drop-append-le p.start bytes text (omega arith) in
    let size : length (drop p.start bytes) ≡ length bytes - p.start = length-drop p.start bytes in
    ap (λ xs. take (p.end - p.start) xs) from ∙ take-append-le (p.end - p.start) (drop p.start bytes) text (omega arith)

data_put : (bytes text : List ℕ) (start end : ℕ) → start ≡ length bytes → end ≡ length bytes + length text → data_at (bytes ++ text) (record { start = start; end = end }) ≡ text
data_put bytes text start end starts ends =
    let size : end - start ≡ length text = omega arith in
    let from : drop start (bytes ++ text) ≡ text = ap (λ n. drop n (bytes ++ text)) starts ∙ drop-append_seam bytes text in
    ap (λ n. take n (drop start (bytes ++ text))) size ∙ (ap (λ xs. take (length text) xs) from ∙ take-length text)

text_kept : (bytes text : List ℕ) (o : Option Place) → ((p : Place) → o ≡ Some p → (p.start ≤ p.end) × (p.end ≤ length bytes)) → option_map (data_at (bytes ++ text)) o ≡ option_map (data_at bytes) o
text_kept bytes text None h = refl
text_kept bytes text (Some p) h = ap (λ xs. Some xs) (data_kept bytes text p (h p refl).0 (h p refl).1)

pub puts_fill : (s t : Slots) (bytes more text : List ℕ) (len end index : ℕ) (in_order : Bool) → AreHeld s bytes len end in_order → Puts s t bytes more text index → Fills (text_at s bytes) (text_at t more) index text
puts_fill s t bytes more text len end index in_order h put = record {
  none = ap (λ o. option_map (data_at bytes) o) put.none;
  here = ap (λ o. option_map (data_at more) o) put.here ∙ ap (λ xs. Some xs) (ap (λ xs. data_at xs (record { start = put.start; end = put.end })) put.appended ∙ data_put bytes text put.start put.end put.starts put.ends);
  others = λ i ne. ap (λ o. option_map (data_at more) o) (put.others i ne) ∙ (ap (λ xs. option_map (data_at xs) (slot_at s i)) put.appended ∙ text_kept bytes text (slot_at s i) (h.within i));
}

pub parts_put : (s t : Slots) (bytes more text : List ℕ) (len end index next : ℕ) (in_order : Bool) → AreHeld s bytes len end in_order → Puts s t bytes more text index → next ≡ max end (index + 1)
    → parts_below next (text_at t more) ≡ with_part (parts_below end (text_at s bytes)) index text
parts_put s t bytes more text len end index next in_order h put is =
    filled end next index (text_at s bytes) (text_at t more) text (puts_fill s t bytes more text len end index in_order h put) (past_texts s bytes len end in_order h) (omega arith) (omega arith)

within_put : (s t : Slots) (bytes more text : List ℕ) (len end index : ℕ) (in_order : Bool) → AreHeld s bytes len end in_order → Puts s t bytes more text index
    → (i : ℕ) (p : Place) → slot_at t i ≡ Some p → (p.start ≤ p.end) × (p.end ≤ length more)
within_put s t bytes more text len end index in_order h put i p e =
    let size : length more ≡ length bytes + length text = ap length put.appended ∙ length-append bytes text in
    elim (same_or_not i index) [
      | inl is ↦
          let there : slot_at t i ≡ Some (record { start = put.start; end = put.end }) = subst (λ (k : ℕ). slot_at t k ≡ Some (record { start = put.start; end = put.end })) (sym is) put.here in
          let place : record { start = put.start; end = put.end } ≡ p = cc in
          let starts : put.start ≡ p.start = ap (λ (q : Place). q.start) place in
          let ends : put.end ≡ p.end = ap (λ (q : Place). q.end) place in
          (omega (arith, put.starts, put.ends), omega (arith, put.ends))
      | inr ne ↦
          let old : (p.start ≤ p.end) × (p.end ≤ length bytes) = h.within i p (sym (put.others i ne) ∙ e) in
          (old.0, omega (arith, old.1))
    ]

pub held_put : (s t : Slots) (bytes more text : List ℕ) (len end index next : ℕ) (in_order next_in_order : Bool) → AreHeld s bytes len end in_order → Puts s t bytes more text index
    → has_part (parts_below end (text_at s bytes)) index ≡ false → index < 4294967296 → next ≡ max end (index + 1) → (next_in_order ≡ true → (in_order ≡ true) × (end ≤ index))
    → AreHeld t more (len + 1) next next_in_order
held_put s t bytes more text len end index next in_order next_in_order h put new small is order = record {
  counted = ap (λ n. n + 1) h.counted ∙ (sym (one_more (parts_below end (text_at s bytes)) index text new) ∙ sym (ap length (parts_put s t bytes more text len end index next in_order h put is)));
  few = omega (arith, h.few);
  past = λ i le. put.others i (let ne : i ≢ index = omega arith in ne) ∙ h.past i (omega arith);
  within = within_put s t bytes more text len end index in_order h put;
  ordered = λ e. last (order e);
}
  where
    last : (in_order ≡ true) × (end ≤ index) → joined_below next (text_at t more) ≡ more
    last both =
        let le : end ≤ index = both.1 in
        let after : next ≡ suc index = omega arith in
        ap (λ n. joined_below n (text_at t more)) after
        ∙ (joined_filled end index (text_at s bytes) (text_at t more) text (puts_fill s t bytes more text len end index in_order h put) (past_texts s bytes len end in_order h) le
        ∙ (ap (λ xs. xs ++ text) (h.ordered both.0) ∙ sym put.appended))

-- ---- put together

pub joined_none : (f : ℕ → Option (List ℕ)) → joined_below 0 f ≡ []
unfolding joined_below
joined_none f = refl

joined_one : (n : ℕ) (f : ℕ → Option (List ℕ)) (o : Option (List ℕ)) → f n ≡ o → joined_below (n + 1) f ≡ joined_below n f ++ text_if o
unfolding joined_below
joined_one n f o e = let one : n + 1 ≡ suc n = omega arith in rw (one, e) refl

with_here : (f : ℕ → Option (List ℕ)) (index i : ℕ) (text : List ℕ) → i ≡ index → with_text f index text i ≡ Some text
with_here f index i text is = let t : (i == index) ≡ true = grind (arith, nat_tests) in rw t refl

with_other : (f : ℕ → Option (List ℕ)) (index i : ℕ) (text : List ℕ) → i ≢ index → with_text f index text i ≡ f i
with_other f index i text ne = let t : (i == index) ≡ false = grind (arith, nat_tests) in rw t refl

pub joined_here : (f : ℕ → Option (List ℕ)) (index i : ℕ) (text message more : List ℕ) → i ≡ index → message ≡ joined_below i (with_text f index text) → more ≡ message ++ text → more ≡ joined_below (i + 1) (with_text f index text)
joined_here f index i text message more is so_far e =
    e ∙ (ap (λ xs. xs ++ text) so_far ∙ sym (joined_one i (with_text f index text) (Some text) (with_here f index i text is)))

pub joined_slot : (s : Slots) (bytes : List ℕ) (index i : ℕ) (text message more part : List ℕ) (p : Place) → i ≢ index → slot_at s i ≡ Some p → part ≡ data_at bytes p → message ≡ joined_below i (with_text (text_at s bytes) index text) → more ≡ message ++ part
    → more ≡ joined_below (i + 1) (with_text (text_at s bytes) index text)
joined_slot s bytes index i text message more part p ne at is so_far e =
    let here : with_text (text_at s bytes) index text i ≡ Some part = with_other (text_at s bytes) index i text ne ∙ (ap (λ o. option_map (data_at bytes) o) at ∙ ap (λ xs. Some xs) (sym is)) in
    e ∙ (ap (λ xs. xs ++ part) so_far ∙ sym (joined_one i (with_text (text_at s bytes) index text) (Some part) here))

pub joined_empty : (s : Slots) (bytes : List ℕ) (index i : ℕ) (text message more : List ℕ) → i ≢ index → slot_at s i ≡ None → message ≡ joined_below i (with_text (text_at s bytes) index text) → more ≡ message
    → more ≡ joined_below (i + 1) (with_text (text_at s bytes) index text)
joined_empty s bytes index i text message more ne at so_far e =
    let here : with_text (text_at s bytes) index text i ≡ None = with_other (text_at s bytes) index i text ne ∙ ap (λ o. option_map (data_at bytes) o) at in
    e ∙ (so_far ∙ sym (joined_one i (with_text (text_at s bytes) index text) None here ∙ append-nil (joined_below i (with_text (text_at s bytes) index text))))

pub put_together_is : (s : Slots) (bytes : List ℕ) (len end index next : ℕ) (in_order : Bool) (text : List ℕ) → AreHeld s bytes len end in_order → has_part (parts_below end (text_at s bytes)) index ≡ false → next ≡ max end (index + 1)
    → joined_below next (with_text (text_at s bytes) index text) ≡ whole_of (with_part (parts_below end (text_at s bytes)) index text)
put_together_is s bytes len end index next in_order text h new is =
    let fills : Fills (text_at s bytes) (with_text (text_at s bytes) index text) index text = record {
      none = ap (λ o. option_map (data_at bytes) o) (not_came s bytes len end index in_order h new);
      here = with_here (text_at s bytes) index index text refl;
      others = λ i ne. with_other (text_at s bytes) index i text ne;
    } in
    sym (joined_is next (with_text (text_at s bytes) index text))
    ∙ ap (λ ps. whole_of ps) (filled end next index (text_at s bytes) (with_text (text_at s bytes) index text) text fills (past_texts s bytes len end in_order h) (omega arith) (omega arith))
