-- A message is answered where the last of its pieces comes, and at none before.
use Rattle.std.proofs.Common.{◌≡◌, ◌≢◌, ℕ, suc, ◌+◌, ◌≤◌, ◌<◌, Bool, true, false, cond, Option, Some, None, List, [], ◌∷◌, length, inl, inr, refl, sym, ◌∙◌, ap, subst, arith, eqb-true}
use Rattle.std.specs.Prelude.{◌⊎◌, ◌==◌, ◌||◌, is_some, nat_lt}
use Rattle.std.specs.declared.cmp.Ordering.{Ordering}
use Rattle.std.specs.declared.cmp.Ordering.TheVariants.{Less, Equal, Greater}
use Rattle.std.specs.Ordering.{nat_cmp, match_ordering, MatchOrdering}
use Rattle.std.specs.BTreeMap.{is_at}
use Rattle.std.specs.Map.{lookup}
use Rattle.std.proofs.lemmas.Cmp.{ranked}
use Rattle.std.proofs.lemmas.Bool.{cases_eq, cases_lt}
use Rattle.std.proofs.lemmas.Bool.Decides.{nat_tests}
use Rattle.piece_link.specs.declared.kept.Kept.{Kept}
use Rattle.piece_link.specs.Joining.{Joining, Joined, Parts, is_less, is_newer, is_same, is_status, opened, has_part, with_part, closed, part_added, part_put, with_piece, kept_taken, first_taken, row_of, taken}
use Rattle.piece_link.specs.Pieces.{Piece, Message, piece_at, piece_count, data_of, head_of, piece_of, pieces_of}
use Rattle.piece_link.specs.Answers.{Among, CanBeCut, joining_after, is_new, IsOfAnother, AreOneMessage, AnsweredAt, AlwaysAtLast}
use Rattle.piece_link.proofs.OrderLaws.{less_same}
use Rattle.piece_link.proofs.ReadLaws.{piece_again, has_index, is_among}
use Rattle.piece_link.proofs.StepLaws.{row_step, row_after, message_after, others_after, none_taken, status_taken, piece_is_taken, status_of, status_is}
use Rattle.piece_link.proofs.WholeLaws.{Ordered, ordered_with, each_with, ordered_len, whole_is}
use Rattle.piece_link.proofs.SelfLaw.{PartsAre, IsOf}

-- ---- which parts there are

at_is : (a b : ℕ) → is_at (nat_cmp a) b ≡ (a == b)
at_is a b =
    elim (cases_eq a b) [
      | inl e ↦ (let lt : nat_lt a b ≡ false = grind (arith, nat_tests) in let eq : (a == b) ≡ true = grind (arith, nat_tests) in rw (lt, eq) refl)
      | inr ne ↦ elim (cases_lt a b) [
        | inl less ↦ (let lt : nat_lt a b ≡ true = grind (arith, nat_tests) in let eq : (a == b) ≡ false = grind (arith, nat_tests) in rw (lt, eq) refl)
        | inr le ↦ (let lt : nat_lt a b ≡ false = grind (arith, nat_tests) in let eq : (a == b) ≡ false = grind (arith, nat_tests) in rw (lt, eq) refl)
      ]
    ]

some_if : (b : Bool) (x : List ℕ) (o : Option (List ℕ)) → is_some (cond b (Some x) o) ≡ (b || is_some o)
some_if true x o = refl
some_if false x o = refl

pub has_first : (p : ℕ × List ℕ) (parts : Parts) (i : ℕ) → has_part (p ∷ parts) i ≡ ((i == p.0) || has_part parts i)
has_first p parts i = some_if (is_at (nat_cmp i) p.0) p.1 (lookup (is_at (nat_cmp i)) parts) ∙ ap (λ b. b || has_part parts i) (at_is i p.0)

or_twice : (a b : Bool) → (a || (a || b)) ≡ (a || b)
or_twice true b = refl
or_twice false b = refl

or_swap : (a b c : Bool) → (a || (b || c)) ≡ (b || (a || c))
or_swap true true c = refl
or_swap true false c = refl
or_swap false true c = refl
or_swap false false c = refl

has_by : (o : Ordering) (p : ℕ × List ℕ) (parts : Parts) (index : ℕ) (text : List ℕ) (i : ℕ) → MatchOrdering o (index < p.0) (index ≡ p.0) (p.0 < index)
    → has_part (with_part parts index text) i ≡ ((i == index) || has_part parts i)
    → has_part (match_ordering o ((index, text) ∷ p ∷ parts) ((p.0, text) ∷ parts) (p ∷ with_part parts index text)) i ≡ ((i == index) || has_part (p ∷ parts) i)
has_by Less p parts index text i lt rest = has_first (index, text) (p ∷ parts) i
has_by Equal p parts index text i is rest =
    has_first (p.0, text) parts i ∙ (sym (or_twice (i == p.0) (has_part parts i)) ∙ (ap (λ b. (i == p.0) || b) (sym (has_first p parts i)) ∙ ap (λ k. (i == k) || has_part (p ∷ parts) i) (sym is)))
has_by Greater p parts index text i gt rest =
    has_first p (with_part parts index text) i ∙ (ap (λ b. (i == p.0) || b) rest ∙ (or_swap (i == p.0) (i == index) (has_part parts i) ∙ ap (λ b. (i == index) || b) (sym (has_first p parts i))))

pub has_with : (parts : Parts) (index : ℕ) (text : List ℕ) (i : ℕ) → has_part (with_part parts index text) i ≡ ((i == index) || has_part parts i)
has_with [] index text i = has_first (index, text) [] i
has_with (p ∷ parts) index text i = has_by (nat_cmp index p.0) p parts index text i (ranked index p.0 (nat_cmp index p.0) refl) (has_with parts index text i)

none_below : (parts : Parts) (low high i : ℕ) → Ordered low high parts → i < low → has_part parts i ≡ false
none_below [] low high i h lt = refl
none_below (p ∷ parts) low high i h lt =
    let from : low ≤ p.0 = h.0 in
    let other : (i == p.0) ≡ false = grind (arith, nat_tests) in
    has_first p parts i ∙ (ap (λ b. b || has_part parts i) other ∙ none_below parts (suc p.0) high i h.2 (omega arith))

-- all of them are as many as the count, and as many are all
full_len : (parts : Parts) (low high : ℕ) → low ≤ high → Ordered low high parts → ((i : ℕ) → low ≤ i → i < high → has_part parts i ≡ true) → length parts + low ≡ high
full_len [] low high le h all =
    elim (cases_lt low high) [
      | inl lt ↦ absurd (let e = all low (omega arith) lt in cc)
      | inr ge ↦ omega arith
    ]
full_len (p ∷ parts) low high le h all =
    let from : low ≤ p.0 = h.0 in
    let below : p.0 < high = h.1 in
    let at : p.0 ≡ low = elim (cases_lt low p.0) [
      | inl lt ↦ (
          let other : (low == p.0) ≡ false = grind (arith, nat_tests) in
          let none : has_part (p ∷ parts) low ≡ false = has_first p parts low ∙ (ap (λ b. b || has_part parts low) other ∙ none_below parts (suc p.0) high low h.2 (omega arith)) in
          let e = all low (omega arith) (omega arith) in
          absurd cc)
      | inr ge ↦ omega arith
    ] in
    let rest : length parts + suc p.0 ≡ high = full_len parts (suc p.0) high below h.2 (λ i more lt.
    (let other : (i == p.0) ≡ false = grind (arith, nat_tests) in
    sym (has_first p parts i ∙ ap (λ b. b || has_part parts i) other) ∙ all i (omega arith) lt)) in
    omega arith

len_full : (parts : Parts) (low high i : ℕ) → Ordered low high parts → length parts + low ≡ high → low ≤ i → i < high → has_part parts i ≡ true
len_full [] low high i h n from lt = absurd (omega arith)
len_full (p ∷ parts) low high i h n from lt =
    let start : low ≤ p.0 = h.0 in
    let below : p.0 < high = h.1 in
    let most : length parts + suc p.0 ≤ high = ordered_len parts (suc p.0) high below h.2 in
    let at : p.0 ≡ low = omega arith in
    elim (cases_eq i p.0) [
      | inl e ↦ (let eq : (i == p.0) ≡ true = grind (arith, nat_tests) in has_first p parts i ∙ ap (λ b. b || has_part parts i) eq)
      | inr ne ↦ (let eq : (i == p.0) ≡ false = grind (arith, nat_tests) in has_first p parts i ∙ (ap (λ b. b || has_part parts i) eq ∙ len_full parts (suc p.0) high i h.2 (omega arith) (omega arith) lt))
    ]

-- ---- which pieces came

abbrev index_at : Option Piece → ℕ
index_at None = 0
index_at (Some p) = p.head.index

pub piece_alone : (m : Message) (i k : ℕ) → CanBeCut m → i < piece_count (length m.bytes) → k < piece_count (length m.bytes) → piece_of m i ≡ piece_of m k → i ≡ k
piece_alone m i k fits lt gt e =
    let a = sym (piece_again m i fits lt) ∙ (ap piece_at e ∙ piece_again m k fits gt) in
    ap index_at a

-- the parts are those of the pieces that came
abbrev pub Tracks : Message → Parts → List (List ℕ) → Type 0
Tracks m parts seen = (i : ℕ) → i < piece_count (length m.bytes) → (has_part parts i ≡ true → Among (piece_of m i) seen) × (Among (piece_of m i) seen → has_part parts i ≡ true)

or_left : (a b : Bool) → (a || b) ≡ true → a ≡ false → b ≡ true
or_left true b h e = absurd cc
or_left false b h e = h

tracks_with : (m : Message) (parts : Parts) (seen : List (List ℕ)) (index : ℕ) (text : List ℕ) → CanBeCut m → index < piece_count (length m.bytes) → Tracks m parts seen → Tracks m (with_part parts index text) (piece_of m index ∷ seen)
tracks_with m parts seen index text fits below t = λ i lt. (
  (λ (h : has_part (with_part parts index text) i ≡ true).
      elim (cases_eq i index) [
        | inl e ↦ inl (ap (λ k. piece_of m k) e)
        | inr ne ↦ (let other : (i == index) ≡ false = grind (arith, nat_tests) in inr ((t i lt).0 (or_left (i == index) (has_part parts i) (sym (has_with parts index text i) ∙ h) other)))
      ]),
  (λ (h : Among (piece_of m i) (piece_of m index ∷ seen)).
      elim h [
        | inl e ↦ (let at : i ≡ index = piece_alone m i index fits lt below e in let eq : (i == index) ≡ true = grind (arith, nat_tests) in has_with parts index text i ∙ ap (λ b. b || has_part parts i) eq)
        | inr old ↦ has_with parts index text i ∙ (ap (λ b. (i == index) || b) ((t i lt).1 old) ∙ or_true (i == index))
      ]),
)
  where
    or_true : (b : Bool) → (b || true) ≡ true
    or_true true = refl
    or_true false = refl

tracks_again : (m : Message) (parts : Parts) (seen : List (List ℕ)) (index : ℕ) → CanBeCut m → index < piece_count (length m.bytes) → has_part parts index ≡ true → Tracks m parts seen → Tracks m parts (piece_of m index ∷ seen)
tracks_again m parts seen index fits below has t = λ i lt. (
  (λ (h : has_part parts i ≡ true). inr ((t i lt).0 h)),
  (λ (h : Among (piece_of m i) (piece_of m index ∷ seen)).
      elim h [
        | inl e ↦ (let at : i ≡ index = piece_alone m i index fits lt below e in ap (has_part parts) at ∙ has)
        | inr old ↦ (t i lt).1 old
      ]),
)

-- ---- the row of the message's sender

pub record Untouched (m : Message) (o : Option Kept) (seen : List (List ℕ)) : Type 0 where
  pub new : is_new m o ≡ true
  pub none : (i : ℕ) → i < piece_count (length m.bytes) → ¬ (Among (piece_of m i) seen)

pub record Begun (m : Message) (o : Option Kept) (seen : List (List ℕ)) : Type 0 where
  pub kept : Kept
  pub row : o ≡ Some kept
  pub of_it : IsOf m kept
  pub parts : Parts
  pub are : kept.parts ≡ Some parts
  pub tracks : Tracks m parts seen

pub record Over (m : Message) (o : Option Kept) (seen : List (List ℕ)) : Type 0 where
  pub kept : Kept
  pub row : o ≡ Some kept
  pub of_it : IsOf m kept
  pub over : kept.parts ≡ None
  pub all : (i : ℕ) → i < piece_count (length m.bytes) → Among (piece_of m i) seen

abbrev pub Progress : Message → Option Kept → List (List ℕ) → Type 0
Progress m o seen = Untouched m o seen ⊎ (Begun m o seen ⊎ Over m o seen)

-- what the pieces that came before, and this one, make of the answer
pub record Answered (m : Message) (seen : List (List ℕ)) (r : Kept × Option (List ℕ)) : Type 0 where
  pub progress : Progress m (Some r.0) seen
  pub last : ((i : ℕ) → i < piece_count (length m.bytes) → Among (piece_of m i) seen) → r.1 ≡ Some m.bytes
  pub before : (i : ℕ) → i < piece_count (length m.bytes) → ¬ (Among (piece_of m i) seen) → r.1 ≡ None

closed_answered : (m : Message) (k : Kept) (parts : Parts) (seen : List (List ℕ)) (b : Bool) → IsOf m k → PartsAre m (Some parts) → Tracks m parts seen → (length parts == k.count) ≡ b → Answered m seen (closed k parts b)
closed_answered m k parts seen true h are t e =
    let n : length parts ≡ piece_count (length m.bytes) = eqb-true (length parts) k.count e ∙ h.count in
    let len : length parts + 0 ≡ piece_count (length m.bytes) = omega arith in
    record {
      progress = inr (inr (record {
        kept = record k { parts = None };
        row = refl;
        of_it = record { sender = h.sender; incarnation = h.incarnation; number = h.number; count = h.count; parts = tt };
        over = refl;
        all = λ i lt. (t i lt).0 (len_full parts 0 (piece_count (length m.bytes)) i are.0 len (omega arith) lt);
      }));
      last = λ all. ap (λ (x : List ℕ). Some x) (whole_is m.bytes parts are.0 n are.1);
      before = λ i lt missing. absurd (missing ((t i lt).0 (len_full parts 0 (piece_count (length m.bytes)) i are.0 len (omega arith) lt)));
    }
closed_answered m k parts seen false h are t e =
    let short : length parts ≢ piece_count (length m.bytes) = (λ (f : length parts ≡ piece_count (length m.bytes)). (let g : length parts ≡ k.count = f ∙ sym h.count in let yes : (length parts == k.count) ≡ true = grind (arith, nat_tests) in cc)) in
    record {
      progress = inr (inl (record {
        kept = record k { parts = Some parts };
        row = refl;
        of_it = record { sender = h.sender; incarnation = h.incarnation; number = h.number; count = h.count; parts = are };
        parts = parts;
        are = refl;
        tracks = t;
      }));
      last = λ all. absurd (
          let len : length parts + 0 ≡ piece_count (length m.bytes) = full_len parts 0 (piece_count (length m.bytes)) (omega arith) are.0 (λ i from lt. (t i lt).1 (all i lt)) in
          short (omega arith));
      before = λ i lt missing. refl;
    }

-- a piece that had not come
missing_answered : (m : Message) (k : Kept) (parts : Parts) (seen : List (List ℕ)) (index : ℕ) → CanBeCut m → IsOf m k → PartsAre m (Some parts) → Tracks m parts seen → index < piece_count (length m.bytes) → has_part parts index ≡ false
    → Answered m (piece_of m index ∷ seen) (part_added k parts index (data_of m.bytes index) false)
missing_answered m k parts seen index fits h are t below none =
    closed_answered m k (with_part parts index (data_of m.bytes index)) (piece_of m index ∷ seen) _ h
    (ordered_with parts 0 (piece_count (length m.bytes)) index (data_of m.bytes index) are.0 (omega arith) below none, each_with m.bytes parts index (data_of m.bytes index) are.1 refl)
    (tracks_with m parts seen index (data_of m.bytes index) fits below t) refl

-- the first of its pieces
first_answered : (m : Message) (o : Option Kept) (seen : List (List ℕ)) (index : ℕ) → CanBeCut m → index < piece_count (length m.bytes) → Untouched m o seen → Answered m (piece_of m index ∷ seen) (first_taken (head_of m index) (data_of m.bytes index))
first_answered m o seen index fits below u =
    missing_answered m (opened (head_of m index)) [] seen index fits (record { sender = refl; incarnation = refl; number = refl; count = refl; parts = (tt, tt) }) (tt, tt)
    (λ i lt. ((λ (h : false ≡ true). absurd cc), (λ (h : Among (piece_of m i) seen). absurd (u.none i lt h)))) below refl

same_test : (a b : ℕ) → a ≡ b → (a == b) ≡ true
same_test a b e = grind (arith, nat_tests)

of_same : (m : Message) (k : Kept) (index : ℕ) → IsOf m k → is_same (head_of m index) k ≡ true
of_same m k index h = rw (same_test _ _ h.incarnation, same_test _ _ h.number, same_test _ _ h.count) refl

of_not_newer : (m : Message) (k : Kept) (index : ℕ) → IsOf m k → is_newer (head_of m index) k ≡ false
of_not_newer m k index h = subst (λ (i : ℕ). is_less i k.number m.incarnation m.number ≡ false) (sym h.incarnation) (subst (λ (n : ℕ). is_less m.incarnation n m.incarnation m.number ≡ false) (sym h.number) (less_same m.incarnation m.number))

kept_is_put : (m : Message) (k : Kept) (index : ℕ) (text : List ℕ) → IsOf m k → kept_taken k (head_of m index) text ≡ with_piece k index text
kept_is_put m k index text h = rw (of_not_newer m k index h, of_same m k index h) refl

new_is_first : (m : Message) (o : Option Kept) (index : ℕ) (text : List ℕ) → is_new m o ≡ true → row_step o (head_of m index) text ≡ first_taken (head_of m index) text
new_is_first m None index text e = refl
new_is_first m (Some k) index text e = rw e refl

-- an answer is told only of a piece that had not come
pub record Stepped (m : Message) (seen : List (List ℕ)) (index : ℕ) (r : Kept × Option (List ℕ)) : Type 0 where
  pub progress : Progress m (Some r.0) (piece_of m index ∷ seen)
  pub answered : ¬ (Among (piece_of m index) seen) → Answered m (piece_of m index ∷ seen) r

answered_stepped : (m : Message) (seen : List (List ℕ)) (index : ℕ) (r : Kept × Option (List ℕ)) → Answered m (piece_of m index ∷ seen) r → Stepped m seen index r
answered_stepped m seen index r a = record { progress = a.progress; answered = λ missing. a }

begun_by : (m : Message) (k : Kept) (parts : Parts) (seen : List (List ℕ)) (index : ℕ) (b : Bool) → CanBeCut m → IsOf m k → k.parts ≡ Some parts → Tracks m parts seen → index < piece_count (length m.bytes) → has_part parts index ≡ b → Stepped m seen index (part_added k parts index (data_of m.bytes index) b)
begun_by m k parts seen index true fits h are t below e = record {
  progress = inr (inl (record { kept = k; row = refl; of_it = h; parts = parts; are = are; tracks = tracks_again m parts seen index fits below e t }));
  answered = λ missing. absurd (missing ((t index below).0 e));
}
begun_by m k parts seen index false fits h are t below e =
    answered_stepped m seen index _ (missing_answered m k parts seen index fits h (subst (λ o. PartsAre m o) are h.parts) t below e)

progress_piece : (m : Message) (o : Option Kept) (seen : List (List ℕ)) (index : ℕ) → CanBeCut m → index < piece_count (length m.bytes) → Progress m o seen → Stepped m seen index (row_step o (head_of m index) (data_of m.bytes index))
progress_piece m o seen index fits below (inl u) =
    subst (λ r. Stepped m seen index r) (sym (new_is_first m o index (data_of m.bytes index) u.new)) (answered_stepped m seen index _ (first_answered m o seen index fits below u))
progress_piece m o seen index fits below (inr (inl b)) =
    let put : row_step o (head_of m index) (data_of m.bytes index) ≡ part_added b.kept b.parts index (data_of m.bytes index) (has_part b.parts index) = rw b.row (kept_is_put m b.kept index (data_of m.bytes index) b.of_it ∙ ap (λ q. part_put b.kept q index (data_of m.bytes index)) b.are) in
    subst (λ r. Stepped m seen index r) (sym put) (begun_by m b.kept b.parts seen index (has_part b.parts index) fits b.of_it b.are b.tracks below refl)
progress_piece m o seen index fits below (inr (inr v)) =
    let put : row_step o (head_of m index) (data_of m.bytes index) ≡ (v.kept, None) = rw v.row (kept_is_put m v.kept index (data_of m.bytes index) v.of_it ∙ ap (λ q. part_put v.kept q index (data_of m.bytes index)) v.over) in
    subst (λ r. Stepped m seen index r) (sym put) (record {
      progress = inr (inr (record { kept = v.kept; row = refl; of_it = v.of_it; over = v.over; all = λ i lt. inr (v.all i lt) }));
      answered = λ missing. absurd (missing (v.all index below));
    })

-- ---- over datagrams

not_status : (m : Message) (index : ℕ) → is_status (head_of m 0) ≡ false → is_status (head_of m index) ≡ false
not_status m index e = e

taken_at : (m : Message) (j : Joining) (seen : List (List ℕ)) (index : ℕ) → CanBeCut m → is_status (head_of m 0) ≡ false → index < piece_count (length m.bytes) → Progress m (row_of m.sender j) seen
    → Progress m (row_of m.sender (taken j (piece_of m index)).joining) (piece_of m index ∷ seen) × (¬ (Among (piece_of m index) seen) → Answered m (piece_of m index ∷ seen) (row_step (row_of m.sender j) (head_of m index) (data_of m.bytes index)))
taken_at m j seen index fits other below p =
    let t = piece_is_taken j (piece_of m index) _ (piece_again m index fits below) (not_status m index other) in
    let s = progress_piece m (row_of m.sender j) seen index fits below p in
    let row : row_of m.sender (taken j (piece_of m index)).joining ≡ Some (row_step (row_of m.sender j) (head_of m index) (data_of m.bytes index)).0 = ap (λ (r : Joined). row_of m.sender r.joining) t ∙ row_after j (head_of m index) (data_of m.bytes index) in
    (subst (λ o. Progress m o (piece_of m index ∷ seen)) (sym row) s.progress, s.answered)

-- another's datagram changes neither the row nor which pieces came
row_by : (o : Option Piece) (status : Bool) (s : ℕ) (j : Joining) (b : List ℕ) → piece_at b ≡ o → ((p : Piece) → o ≡ Some p → is_status p.head ≡ status) → IsOfAnother s o → row_of s (taken j b).joining ≡ row_of s j
row_by None status s j b e f h = ap (λ (r : Joined). row_of s r.joining) (none_taken j b e)
row_by (Some p) true s j b e f h = ap (λ (r : Joined). row_of s r.joining) (status_taken j b p e (f p refl))
row_by (Some p) false s j b e f h = ap (λ (r : Joined). row_of s r.joining) (piece_is_taken j b p e (f p refl)) ∙ others_after s j p.head p.text (λ (g : s ≡ p.head.sender). h (sym g))

other_piece : (m : Message) (b : List ℕ) (i : ℕ) → CanBeCut m → i < piece_count (length m.bytes) → IsOfAnother m.sender (piece_at b) → ¬ (piece_of m i ≡ b)
other_piece m b i fits lt h = λ e. (
    let at = sym (ap piece_at e) ∙ piece_again m i fits lt in
    let k : IsOfAnother m.sender (Some (record { head = head_of m i; text = data_of m.bytes i })) = subst (λ o. IsOfAnother m.sender o) at h in
    k refl)

still_among : (m : Message) (b : List ℕ) (seen : List (List ℕ)) (i : ℕ) → CanBeCut m → i < piece_count (length m.bytes) → IsOfAnother m.sender (piece_at b) → Among (piece_of m i) (b ∷ seen) → Among (piece_of m i) seen
still_among m b seen i fits lt h (inl e) = absurd (other_piece m b i fits lt h e)
still_among m b seen i fits lt h (inr old) = old

progress_other : (m : Message) (o : Option Kept) (b : List ℕ) (seen : List (List ℕ)) → CanBeCut m → IsOfAnother m.sender (piece_at b) → Progress m o seen → Progress m o (b ∷ seen)
progress_other m o b seen fits h (inl u) = inl (record { new = u.new; none = λ i lt k. u.none i lt (still_among m b seen i fits lt h k) })
progress_other m o b seen fits h (inr (inl g)) = inr (inl (record {
  kept = g.kept;
  row = g.row;
  of_it = g.of_it;
  parts = g.parts;
  are = g.are;
  tracks = λ i lt. ((λ (k : has_part g.parts i ≡ true). inr ((g.tracks i lt).0 k)), (λ (k : Among (piece_of m i) (b ∷ seen)). (g.tracks i lt).1 (still_among m b seen i fits lt h k)));
}))
progress_other m o b seen fits h (inr (inr v)) = inr (inr (record { kept = v.kept; row = v.row; of_it = v.of_it; over = v.over; all = λ i lt. inr (v.all i lt) }))

index_of : (m : Message) (b : List ℕ) → Among b (pieces_of m) → (i : ℕ) × (i < piece_count (length m.bytes)) × (b ≡ piece_of m i)
index_of m b h = let x = has_index m 0 (piece_count (length m.bytes)) b h in (x.0, omega (arith, x.2), x.3)

progress_datagram : (m : Message) (j : Joining) (b : List ℕ) (seen : List (List ℕ)) → CanBeCut m → is_status (head_of m 0) ≡ false → Among b (pieces_of m) ⊎ IsOfAnother m.sender (piece_at b) → Progress m (row_of m.sender j) seen → Progress m (row_of m.sender (taken j b).joining) (b ∷ seen)
progress_datagram m j b seen fits other (inl piece) p =
    let i = index_of m b piece in
    subst (λ (x : List ℕ). Progress m (row_of m.sender (taken j x).joining) (x ∷ seen)) (sym i.2) (taken_at m j seen i.0 fits other i.1 p).0
progress_datagram m j b seen fits other (inr another) p =
    let row = row_by (piece_at b) (status_of (piece_at b)) m.sender j b refl (status_is (piece_at b)) another in
    subst (λ o. Progress m o (b ∷ seen)) (sym row) (progress_other m (row_of m.sender j) b seen fits another p)

-- the datagrams that came, the last one first
abbrev pub shown : List (List ℕ) → List (List ℕ) → List (List ℕ)
shown seen [] = seen
shown seen (b ∷ bs) = shown (b ∷ seen) bs

shown_or : (x : List ℕ) (seen bs : List (List ℕ)) → Among x (shown seen bs) → Among x seen ⊎ Among x bs
shown_or x seen [] h = inl h
shown_or x seen (b ∷ bs) h =
    elim (shown_or x (b ∷ seen) bs h) [
      | inl old ↦ elim old [ inl e ↦ inr (inl e) | inr before ↦ inl before ]
      | inr later ↦ inr (inr later)
    ]

or_shown : (x : List ℕ) (seen bs : List (List ℕ)) → Among x seen ⊎ Among x bs → Among x (shown seen bs)
or_shown x seen [] (inl h) = h
or_shown x seen [] (inr h) = absurd h
or_shown x seen (b ∷ bs) (inl h) = or_shown x (b ∷ seen) bs (inl (inr h))
or_shown x seen (b ∷ bs) (inr (inl e)) = or_shown x (b ∷ seen) bs (inl (inl e))
or_shown x seen (b ∷ bs) (inr (inr h)) = or_shown x (b ∷ seen) bs (inr h)

progress_on : (m : Message) (j : Joining) (bs seen : List (List ℕ)) → CanBeCut m → is_status (head_of m 0) ≡ false → AreOneMessage m bs → Progress m (row_of m.sender j) seen → Progress m (row_of m.sender (joining_after j bs)) (shown seen bs)
unfolding joining_after
progress_on m j [] seen fits other one p = p
progress_on m j (b ∷ bs) seen fits other one p =
    progress_on m (taken j b).joining bs (b ∷ seen) fits other (λ (x : List ℕ) (h : Among x bs). one x (inr h)) (progress_datagram m j b seen fits other (one b (inl refl)) p)

among_shown : (x b : List ℕ) (bs : List (List ℕ)) → Among x (b ∷ bs) → Among x (b ∷ shown [] bs)
among_shown x b bs (inl e) = inl e
among_shown x b bs (inr h) = inr (or_shown x [] bs (inr h))

shown_among : (x : List ℕ) (bs : List (List ℕ)) → Among x (shown [] bs) → Among x bs
shown_among x bs h = elim (shown_or x [] bs h) [ inl none ↦ absurd none | inr k ↦ k ]

shown_first : (x b : List ℕ) (bs : List (List ℕ)) → Among x (b ∷ shown [] bs) → Among x (b ∷ bs)
shown_first x b bs (inl e) = inl e
shown_first x b bs (inr h) = inr (shown_among x bs h)

last_of : (m : Message) (j : Joining) (bs : List (List ℕ)) (index : ℕ) → CanBeCut m → is_status (head_of m 0) ≡ false → is_new m (row_of m.sender j) ≡ true → AreOneMessage m bs → index < piece_count (length m.bytes) → ¬ (Among (piece_of m index) bs)
    → AnsweredAt m bs (piece_of m index) (taken (joining_after j bs) (piece_of m index)).message
last_of m j bs index fits other new one below missing =
    let k : Joining = joining_after j bs in
    let start : Progress m (row_of m.sender j) [] = inl (record { new = new; none = λ i lt h. h }) in
    let p : Progress m (row_of m.sender k) (shown [] bs) = progress_on m j bs [] fits other one start in
    let a = (taken_at m k (shown [] bs) index fits other below p).1 (λ (h : Among (piece_of m index) (shown [] bs)). missing (shown_among (piece_of m index) bs h)) in
    let t = piece_is_taken k (piece_of m index) _ (piece_again m index fits below) (not_status m index other) in
    let answer : (taken k (piece_of m index)).message ≡ (row_step (row_of m.sender k) (head_of m index) (data_of m.bytes index)).1 = ap (λ (r : Joined). r.message) t ∙ message_after k (head_of m index) (data_of m.bytes index) in
    record {
      last = λ all. answer ∙ a.last (λ i lt. among_shown (piece_of m i) (piece_of m index) bs (all (piece_of m i) (is_among m 0 (piece_count (length m.bytes)) i (omega arith) (omega arith))));
      before = λ piece among absent. (
          let i = index_of m piece among in
          answer ∙ a.before i.0 i.1 (λ (h : Among (piece_of m i.0) (piece_of m index ∷ shown [] bs)). absent (subst (λ (x : List ℕ). Among x (piece_of m index ∷ bs)) (sym i.2) (shown_first (piece_of m i.0) (piece_of m index) bs h))));
    }

pub at_last : AlwaysAtLast
at_last = λ m j bs b fits other new one piece missing. (
    let i = index_of m b piece in
    subst (λ (x : List ℕ). AnsweredAt m bs x (taken (joining_after j bs) x).message) (sym i.2)
    (last_of m j bs i.0 fits other new one i.1 (subst (λ (x : List ℕ). ¬ (Among x bs)) i.2 missing)))
