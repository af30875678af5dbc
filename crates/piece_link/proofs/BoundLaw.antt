-- What a sender can make a joiner hold.
use Rattle.std.proofs.Common.{◌≡◌, ◌≢◌, ℕ, ◌+◌, ◌*◌, ◌≤◌, ◌<◌, Bool, true, false, cond, Option, Some, None, List, [], ◌∷◌, length, inl, inr, refl, sym, ◌∙◌, subst, arith, eqb-true, length-append}
use Rattle.std.specs.Prelude.{◌==◌, ◌&&◌, ◌||◌, nat_eq, nat_le, nat_lt, map}
use Rattle.std.specs.List.{IsDistinct, AllByRecursion, list_any}
use Rattle.std.specs.declared.cmp.Ordering.{Ordering}
use Rattle.std.specs.declared.cmp.Ordering.TheVariants.{Less, Equal, Greater}
use Rattle.std.specs.Ordering.{nat_cmp, match_ordering}
use Rattle.std.proofs.lemmas.Bool.{leb-true}
use Rattle.std.proofs.lemmas.Bool.Decides.{nat_tests}
use Rattle.std.proofs.lemmas.Map.Steps.{length-le_from_distinct_below}
use Rattle.std.proofs.lemmas.List.{length-map}
use Rattle.rsct_packet.proofs.FieldLaws.{and_true}
use Rattle.piece_link.specs.declared.piece.PieceHead.{PieceHead}
use Rattle.piece_link.specs.declared.kept.Kept.{Kept}
use Rattle.piece_link.specs.Joining.{Joining, Joined, Parts, is_newer, is_same, is_status, opened, has_part, with_part, whole_of, closed, part_added, part_put, chosen, kept_taken, first_taken, row_chosen, row_taken, taken}
use Rattle.piece_link.specs.Pieces.{Piece, is_piece, fits_data, piece_if, piece_in, head_at, piece_at}
use Rattle.piece_link.specs.Answers.{Among, joining_after, PartsAreBounded, AlwaysBounded}
use Rattle.piece_link.proofs.StepLaws.{piece_same, step_sender, none_taken, status_taken, piece_is_taken, status_of, status_is}
use Rattle.piece_link.proofs.OnceLaw.{same_parts}
use Rattle.piece_link.proofs.WholeLaws.{Ordered, ordered_with, ordered_len}

-- ---- what a piece is

pub record PieceFits (p : Piece) : Type 0 where
  pub sender : p.head.sender ≤ 32
  pub below : p.head.index < p.head.count
  pub few : p.head.count ≤ 60000
  pub size : length p.text ≤ 1176

if_fits : (head : PieceHead) (text : List ℕ) (b : Bool) (p : Piece) → is_piece head (length text) ≡ b → piece_if head text b ≡ Some p → is_piece p.head (length p.text) ≡ true
if_fits head text true p e f = let is : record { head = head; text = text } ≡ p = cc in subst (λ (q : Piece). is_piece q.head (length q.text) ≡ true) is e
if_fits head text false p e f = absurd cc

in_fits : (o : Option (PieceHead × List ℕ)) (p : Piece) → piece_in o ≡ Some p → is_piece p.head (length p.text) ≡ true
in_fits None p e = absurd cc
in_fits (Some x) p e = if_fits x.0 x.1 (is_piece x.0 (length x.1)) p refl e

at_fits : (b : List ℕ) (p : Piece) → piece_at b ≡ Some p → is_piece p.head (length p.text) ≡ true
unfolding piece_at
at_fits b p e = in_fits (head_at b) p e

short_by : (b : Bool) (len : ℕ) → cond b (nat_le len 1176) (len == 1176) ≡ true → len ≤ 1176
short_by true len e = leb-true len 1176 e
short_by false len e = let is : len ≡ 1176 = eqb-true len 1176 e in omega arith

pub piece_fits : (b : List ℕ) (p : Piece) → piece_at b ≡ Some p → PieceFits p
piece_fits b p e =
    let len : ℕ = length p.text in
    let a = and_true (nat_le p.head.sender 32) (nat_lt p.head.index p.head.count && (nat_le p.head.count 60000 && fits_data p.head len)) (at_fits b p e) in
    let c = and_true (nat_lt p.head.index p.head.count) (nat_le p.head.count 60000 && fits_data p.head len) a.1 in
    let d = and_true (nat_le p.head.count 60000) (fits_data p.head len) c.1 in
    let f = and_true (nat_le 1 len) (cond (p.head.index + 1 == p.head.count) (nat_le len 1176) (len == 1176)) d.1 in
    let lt : nat_lt p.head.index p.head.count ≡ true = c.0 in
    record {
      sender = leb-true p.head.sender 32 a.0;
      below = grind (arith, nat_tests);
      few = leb-true p.head.count 60000 d.0;
      size = short_by (p.head.index + 1 == p.head.count) len f.1;
    }

-- ---- a row

abbrev pub EachShort : Parts → Type 0
EachShort [] = Unit {0}
EachShort (p ∷ parts) = (length p.1 ≤ 1176) × EachShort parts

short_with_by : (o : Ordering) (p : ℕ × List ℕ) (parts : Parts) (index : ℕ) (text : List ℕ) → EachShort (p ∷ parts) → length text ≤ 1176 → EachShort (with_part parts index text)
    → EachShort (match_ordering o ((index, text) ∷ p ∷ parts) ((p.0, text) ∷ parts) (p ∷ with_part parts index text))
short_with_by Less p parts index text h le rest = (le, h)
short_with_by Equal p parts index text h le rest = (le, h.1)
short_with_by Greater p parts index text h le rest = (h.0, rest)

short_with : (parts : Parts) (index : ℕ) (text : List ℕ) → EachShort parts → length text ≤ 1176 → EachShort (with_part parts index text)
short_with [] index text h le = (le, tt)
short_with (p ∷ parts) index text h le = short_with_by (nat_cmp index p.0) p parts index text h le (short_with parts index text h.1 le)

short_whole : (parts : Parts) → EachShort parts → length (whole_of parts) ≤ 1176 * length parts
short_whole [] h = omega arith
short_whole (p ∷ parts) h =
    let first : length p.1 ≤ 1176 = h.0 in
    let rest : length (whole_of parts) ≤ 1176 * length parts = short_whole parts h.1 in
    omega (arith, length-append p.1 (whole_of parts))

abbrev pub InCount : ℕ → Option Parts → Type 0
InCount count None = Unit {0}
InCount count (Some parts) = Ordered 0 count parts × EachShort parts × (length parts < count)

pub record BoundedRow (k : Kept) : Type 0 where
  pub sender : k.sender ≤ 32
  pub count : k.count ≤ 60000
  pub parts : InCount k.count k.parts

closed_bounded : (k : Kept) (parts : Parts) (b : Bool) → BoundedRow k → (length parts == k.count) ≡ b → Ordered 0 k.count parts → EachShort parts → BoundedRow (closed k parts b).0
closed_bounded k parts true h e ordered short = record { sender = h.sender; count = h.count; parts = tt }
closed_bounded k parts false h e ordered short =
    let le : length parts + 0 ≤ k.count = ordered_len parts 0 k.count (omega arith) ordered in
    let below : length parts < k.count = grind (arith, nat_tests) in
    record { sender = h.sender; count = h.count; parts = (ordered, short, below) }

added_bounded : (k : Kept) (parts : Parts) (index : ℕ) (text : List ℕ) (b : Bool) → BoundedRow k → has_part parts index ≡ b → InCount k.count (Some parts) → index < k.count → length text ≤ 1176 → BoundedRow (part_added k parts index text b).0
added_bounded k parts index text true h e are below le = h
added_bounded k parts index text false h e are below le =
    closed_bounded k (with_part parts index text) (length (with_part parts index text) == k.count) h refl (ordered_with parts 0 k.count index text are.0 (omega arith) below e) (short_with parts index text are.1 le)

put_bounded : (k : Kept) (o : Option Parts) (index : ℕ) (text : List ℕ) → BoundedRow k → InCount k.count o → index < k.count → length text ≤ 1176 → BoundedRow (part_put k o index text).0
put_bounded k None index text h are below le = h
put_bounded k (Some parts) index text h are below le = added_bounded k parts index text (has_part parts index) h refl are below le

first_bounded : (p : Piece) → PieceFits p → BoundedRow (first_taken p.head p.text).0
first_bounded p h =
    let below : p.head.index < p.head.count = h.below in
    let some : 0 < p.head.count = omega arith in
    put_bounded (opened p.head) (Some []) p.head.index p.text (record { sender = h.sender; count = h.few; parts = (tt, tt, some) }) (tt, tt, some) below h.size

chosen_bounded : (k : Kept) (p : Piece) (newer same : Bool) → is_same p.head k ≡ same → PieceFits p → BoundedRow k → BoundedRow (chosen k p.head p.text newer same).0
chosen_bounded k p true same e h row = first_bounded p h
chosen_bounded k p false true e h row =
    let count : k.count ≡ p.head.count = (same_parts p.head k e).2 in
    let below : p.head.index < k.count = subst (λ (n : ℕ). p.head.index < n) (sym count) h.below in
    put_bounded k k.parts p.head.index p.text row row.parts below h.size
chosen_bounded k p false false e h row = row

-- ---- all rows

abbrev pub AllBounded : Joining → Type 0
AllBounded [] = Unit {0}
AllBounded (k ∷ j) = BoundedRow k × AllBounded j

row_by : (b : Bool) (k : Kept) (j : Joining) (p : Piece) → PieceFits p → AllBounded (k ∷ j) → AllBounded (row_taken j p.head p.text).joining → AllBounded (row_chosen b k j p.head p.text (row_taken j p.head p.text)).joining
row_by true k j p h all rest = (chosen_bounded k p (is_newer p.head k) (is_same p.head k) refl h all.0, all.1)
row_by false k j p h all rest = (all.0, rest)

row_bounded : (j : Joining) (p : Piece) → PieceFits p → AllBounded j → AllBounded (row_taken j p.head p.text).joining
unfolding row_taken
row_bounded [] p h all = (first_bounded p h, tt)
row_bounded (k ∷ j) p h all = row_by (k.sender == p.head.sender) k j p h all (row_bounded j p h all.1)

-- one row of each sender

abbrev pub NotIn : ℕ → Joining → Type 0
NotIn s [] = Unit {0}
NotIn s (k ∷ j) = ((s == k.sender) ≡ false) × NotIn s j

abbrev pub Apart : Joining → Type 0
Apart [] = Unit {0}
Apart (k ∷ j) = NotIn k.sender j × Apart j

test_differs : (s t : ℕ) → s ≢ t → (s == t) ≡ false
test_differs s t ne = grind (arith, nat_tests)

not_in_by : (b : Bool) (s : ℕ) (k : Kept) (j : Joining) (head : PieceHead) (text : List ℕ) → (k.sender == head.sender) ≡ b → s ≢ head.sender → NotIn s (k ∷ j) → NotIn s (row_taken j head text).joining → NotIn s (row_chosen b k j head text (row_taken j head text)).joining
not_in_by true s k j head text e ne h rest =
    let next : (kept_taken k head text).0.sender ≡ head.sender = step_sender k head text (eqb-true k.sender head.sender e) in
    (subst (λ (t : ℕ). (s == t) ≡ false) (sym next) (test_differs s head.sender ne), h.1)
not_in_by false s k j head text e ne h rest = (h.0, rest)

not_in_after : (s : ℕ) (j : Joining) (head : PieceHead) (text : List ℕ) → s ≢ head.sender → NotIn s j → NotIn s (row_taken j head text).joining
unfolding row_taken
not_in_after s [] head text ne h =
    let next : (first_taken head text).0.sender ≡ head.sender = (piece_same (opened head) head.index text).sender in
    (subst (λ (t : ℕ). (s == t) ≡ false) (sym next) (test_differs s head.sender ne), tt)
not_in_after s (k ∷ j) head text ne h = not_in_by (k.sender == head.sender) s k j head text refl ne h (not_in_after s j head text ne h.1)

differs_test : (s t : ℕ) → (s == t) ≡ false → s ≢ t
differs_test s t e = λ f. (let g : (s == t) ≡ true = grind (arith, nat_tests) in cc)

apart_by : (b : Bool) (k : Kept) (j : Joining) (head : PieceHead) (text : List ℕ) → (k.sender == head.sender) ≡ b → Apart (k ∷ j) → Apart (row_taken j head text).joining → Apart (row_chosen b k j head text (row_taken j head text)).joining
apart_by true k j head text e h rest =
    let at : k.sender ≡ head.sender = eqb-true k.sender head.sender e in
    let next : (kept_taken k head text).0.sender ≡ k.sender = step_sender k head text at ∙ sym at in
    (subst (λ (t : ℕ). NotIn t j) (sym next) h.0, h.1)
apart_by false k j head text e h rest = (not_in_after k.sender j head text (differs_test k.sender head.sender e) h.0, rest)

row_apart : (j : Joining) (head : PieceHead) (text : List ℕ) → Apart j → Apart (row_taken j head text).joining
unfolding row_taken
row_apart [] head text h = (tt, tt)
row_apart (k ∷ j) head text h = apart_by (k.sender == head.sender) k j head text refl h (row_apart j head text h.1)

-- ---- datagrams

abbrev pub Sound : Joining → Type 0
Sound j = AllBounded j × Apart j

sound_by : (o : Option Piece) (status : Bool) (j : Joining) (b : List ℕ) → piece_at b ≡ o → ((p : Piece) → o ≡ Some p → is_status p.head ≡ status) → Sound j → Sound (taken j b).joining
sound_by None status j b e f h = subst (λ (r : Joined). Sound r.joining) (sym (none_taken j b e)) h
sound_by (Some p) true j b e f h = subst (λ (r : Joined). Sound r.joining) (sym (status_taken j b p e (f p refl))) h
sound_by (Some p) false j b e f h = subst (λ (r : Joined). Sound r.joining) (sym (piece_is_taken j b p e (f p refl))) (row_bounded j p (piece_fits b p e) h.0, row_apart j p.head p.text h.1)

sound_after : (bs : List (List ℕ)) (j : Joining) → Sound j → Sound (joining_after j bs)
unfolding joining_after
sound_after [] j h = h
sound_after (b ∷ bs) j h = sound_after bs (taken j b).joining (sound_by (piece_at b) (status_of (piece_at b)) j b refl (status_is (piece_at b)) h)

senders_of : Joining → List ℕ
senders_of j = map (λ (k : Kept). k.sender) j

apart_all : (s : ℕ) (j : Joining) → NotIn s j → AllByRecursion (λ y. nat_eq s y ≡ false) (senders_of j)
unfolding senders_of
apart_all s [] h = tt
apart_all s (k ∷ j) h = (h.0, apart_all s j h.1)

apart_distinct : (j : Joining) → Apart j → IsDistinct nat_eq (senders_of j)
unfolding IsDistinct senders_of
apart_distinct [] h = tt
apart_distinct (k ∷ j) h = (apart_all k.sender j h.0, apart_distinct j h.1)

below_by : (b : Bool) (q : ℕ) (k : Kept) (rest : Bool) → (q == k.sender) ≡ b → k.sender ≤ 32 → (rest ≡ true → q < 33) → (b || rest) ≡ true → q < 33
below_by true q k rest e le more h = let is : q ≡ k.sender = eqb-true q k.sender e in omega arith
below_by false q k rest e le more h = more h

senders_below : (j : Joining) (q : ℕ) → AllBounded j → list_any (nat_eq q) (senders_of j) ≡ true → q < 33
unfolding senders_of
senders_below [] q all h = absurd cc
senders_below (k ∷ j) q all h = below_by (q == k.sender) q k (list_any (nat_eq q) (senders_of j)) refl all.0.sender (senders_below j q all.1) h

few_rows : (j : Joining) → Sound j → length j ≤ 33
unfolding senders_of
few_rows j h =
    let few : length (senders_of j) ≤ 33 = length-le_from_distinct_below (senders_of j) 33 (apart_distinct j h.1) (λ q k. senders_below j q h.0 k) in
    subst (λ (n : ℕ). n ≤ 33) (length-map j (λ (k : Kept). k.sender)) few

parts_bounded : (count : ℕ) (o : Option Parts) → count ≤ 60000 → InCount count o → PartsAreBounded o
parts_bounded count None few h = tt
parts_bounded count (Some parts) few h = let below : length parts < count = h.2 in (omega arith, short_whole parts h.1)

each_bounded : (j : Joining) (k : Kept) → AllBounded j → Among k j → PartsAreBounded k.parts
each_bounded [] k all h = absurd h
each_bounded (r ∷ j) k all (inl e) = subst (λ (x : Kept). PartsAreBounded x.parts) (sym e) (parts_bounded r.count r.parts all.0.count all.0.parts)
each_bounded (r ∷ j) k all (inr h) = each_bounded j k all.1 h

pub bounded : AlwaysBounded
unfolding senders_of
bounded = λ bs. (let s = sound_after bs [] (tt, tt) in record { rows = few_rows (joining_after [] bs) s; apart = apart_distinct (joining_after [] bs) s.1; each = λ k h. each_bounded (joining_after [] bs) k s.0 h })
