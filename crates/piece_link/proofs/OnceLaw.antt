-- A sender's answers rise: each is of a later incarnation or number than the one before.
use Rattle.std.proofs.Common.{◌≡◌, ℕ, ◌≤◌, Bool, true, false, not, Option, Some, None, List, [], ◌∷◌, ◌++◌, length, inl, inr, refl, sym, ◌∙◌, ap, subst, arith, eqb-true}
use Rattle.std.specs.Prelude.{◌==◌, ◌&&◌}
use Rattle.std.proofs.lemmas.Bool.{cases_eq}
use Rattle.std.proofs.lemmas.Bool.Decides.{nat_tests}
use Rattle.rsct_packet.proofs.FieldLaws.{and_true}
use Rattle.rsct_packet.proofs.HasLaws.{has_append}
use Rattle.piece_link.specs.declared.piece.PieceHead.{PieceHead}
use Rattle.piece_link.specs.declared.kept.Kept.{Kept}
use Rattle.piece_link.specs.Joining.{Joining, Joined, Parts, is_less, is_newer, is_same, is_status, opened, has_part, with_part, closed, part_added, part_put, with_piece, chosen, first_taken, row_taken, row_of, taken}
use Rattle.piece_link.specs.Pieces.{Piece, Message, piece_at}
use Rattle.piece_link.specs.Answers.{Among, answer_for, answer_to, answers_to, AreRising, AlwaysAnsweredOnce}
use Rattle.piece_link.proofs.OrderLaws.{less_on, less_not, less_same}
use Rattle.piece_link.proofs.StepLaws.{row_step, SameMessage, put_same, piece_same, row_after, message_after, others_after, none_taken, status_taken, piece_is_taken, status_of, status_is}

-- an answer of this incarnation and number may still come where this is kept
abbrev pub above_by : Option Parts → ℕ → ℕ → ℕ → ℕ → Bool
above_by None i n j k = is_less i n j k
above_by (Some parts) i n j k = not (is_less j k i n)

abbrev pub is_above : Option Kept → ℕ → ℕ → Bool
is_above None j k = true
is_above (Some kept) j k = above_by kept.parts kept.incarnation kept.number j k

not_false : (b : Bool) → not b ≡ true → b ≡ false
not_false true e = absurd cc
not_false false e = refl

above_not_less : (o : Option Parts) (i n j k : ℕ) → above_by o i n j k ≡ true → is_less j k i n ≡ false
above_not_less None i n j k h = less_not i n j k h
above_not_less (Some parts) i n j k h = not_false (is_less j k i n) h

less_above : (o : Option Parts) (i n j k : ℕ) → is_less i n j k ≡ true → above_by o i n j k ≡ true
less_above None i n j k h = h
less_above (Some parts) i n j k h = rw (less_not i n j k h) refl

moved : (i j n k : ℕ) (P : ℕ → ℕ → Type 0) → j ≡ i → k ≡ n → P j k → P i n
moved i j n k P e f h = subst (λ x. P x n) e (subst (λ y. P j y) f h)

-- ---- a step keeps what is above, and answers what is above

put_keeps : (kept : Kept) (o : Option Parts) (index : ℕ) (text : List ℕ) (j k : ℕ) → kept.parts ≡ o → is_above (Some (part_put kept o index text).0) j k ≡ true → above_by o kept.incarnation kept.number j k ≡ true
put_keeps kept None index text j k e h = subst (λ o. above_by o kept.incarnation kept.number j k ≡ true) e h
put_keeps kept (Some parts) index text j k e h = some_keeps (part_put kept (Some parts) index text).0 (put_same kept (Some parts) index text) h
  where
    some_keeps : (x : Kept) → SameMessage kept x → above_by x.parts x.incarnation x.number j k ≡ true → not (is_less j k kept.incarnation kept.number) ≡ true
    some_keeps x same g = let f : is_less j k x.incarnation x.number ≡ false = above_not_less x.parts x.incarnation x.number j k g in rw (← same.incarnation, ← same.number, f) refl

pub step_keeps : (kept : Kept) (head : PieceHead) (text : List ℕ) (newer same : Bool) (j k : ℕ) → is_newer head kept ≡ newer → is_above (Some (chosen kept head text newer same).0) j k ≡ true → is_above (Some kept) j k ≡ true
step_keeps kept head text true same j k e h =
    let x : Kept = (with_piece (opened head) head.index text).0 in
    let s = piece_same (opened head) head.index text in
    let f : is_less j k x.incarnation x.number ≡ false = above_not_less x.parts x.incarnation x.number j k h in
    let g : is_less j k head.incarnation head.number ≡ false = moved head.incarnation x.incarnation head.number x.number (λ i n. is_less j k i n ≡ false) s.incarnation s.number f in
    less_above kept.parts kept.incarnation kept.number j k (less_on kept.incarnation kept.number head.incarnation head.number j k e g)
step_keeps kept head text false true j k e h = put_keeps kept kept.parts head.index text j k refl h
step_keeps kept head text false false j k e h = h

pub row_keeps : (o : Option Kept) (head : PieceHead) (text : List ℕ) (j k : ℕ) → is_above (Some (row_step o head text).0) j k ≡ true → is_above o j k ≡ true
row_keeps None head text j k h = refl
row_keeps (Some kept) head text j k h = step_keeps kept head text (is_newer head kept) (is_same head kept) j k refl h

pub same_parts : (head : PieceHead) (kept : Kept) → is_same head kept ≡ true → (kept.incarnation ≡ head.incarnation) × (kept.number ≡ head.number) × (kept.count ≡ head.count)
same_parts head kept h =
    let p = and_true (kept.incarnation == head.incarnation) ((kept.number == head.number) && (kept.count == head.count)) h in
    let q = and_true (kept.number == head.number) (kept.count == head.count) p.1 in
    (eqb-true _ _ p.0, eqb-true _ _ q.0, eqb-true _ _ q.1)

-- who answers keeps no parts
closed_done : (kept : Kept) (parts : Parts) (b : Bool) (m : List ℕ) → (closed kept parts b).1 ≡ Some m → (closed kept parts b).0.parts ≡ None
closed_done kept parts true m e = refl
closed_done kept parts false m e = absurd cc

added_done : (kept : Kept) (parts : Parts) (index : ℕ) (text : List ℕ) (b : Bool) (m : List ℕ) → (part_added kept parts index text b).1 ≡ Some m → (part_added kept parts index text b).0.parts ≡ None
added_done kept parts index text true m e = absurd cc
added_done kept parts index text false m e = closed_done kept (with_part parts index text) (length (with_part parts index text) == kept.count) m e

put_done : (kept : Kept) (o : Option Parts) (index : ℕ) (text m : List ℕ) → (part_put kept o index text).1 ≡ Some m → ((part_put kept o index text).0.parts ≡ None) × (parts : Parts) × (o ≡ Some parts)
put_done kept None index text m e = absurd cc
put_done kept (Some parts) index text m e = (added_done kept parts index text (has_part parts index) m e, parts, refl)

pub record Answers (o : Option Kept) (head : PieceHead) (next : Kept) : Type 0 where
  pub above : is_above o head.incarnation head.number ≡ true
  pub done : next.parts ≡ None
  pub incarnation : next.incarnation ≡ head.incarnation
  pub number : next.number ≡ head.number

first_answers : (o : Option Kept) (head : PieceHead) (text m : List ℕ) → is_above o head.incarnation head.number ≡ true → (first_taken head text).1 ≡ Some m → Answers o head (first_taken head text).0
first_answers o head text m above e =
    let s = piece_same (opened head) head.index text in
    let d = put_done (opened head) (Some []) head.index text m e in
    record { above = above; done = d.0; incarnation = s.incarnation; number = s.number }

chosen_answers : (kept : Kept) (head : PieceHead) (text m : List ℕ) (newer same : Bool) → is_newer head kept ≡ newer → is_same head kept ≡ same → (chosen kept head text newer same).1 ≡ Some m → Answers (Some kept) head (chosen kept head text newer same).0
chosen_answers kept head text m true same e f h = first_answers (Some kept) head text m (less_above kept.parts kept.incarnation kept.number head.incarnation head.number e) h
chosen_answers kept head text m false true e f h =
    let s = piece_same kept head.index text in
    let d = put_done kept kept.parts head.index text m h in
    let p = same_parts head kept f in
    let above : not (is_less head.incarnation head.number kept.incarnation kept.number) ≡ true = rw (p.0, p.1, less_same head.incarnation head.number) refl in
    record {
      above = subst (λ o. above_by o kept.incarnation kept.number head.incarnation head.number ≡ true) (sym d.2) above;
      done = d.0;
      incarnation = s.incarnation ∙ p.0;
      number = s.number ∙ p.1;
    }
chosen_answers kept head text m false false e f h = absurd cc

pub row_answers : (o : Option Kept) (head : PieceHead) (text m : List ℕ) → (row_step o head text).1 ≡ Some m → Answers o head (row_step o head text).0
row_answers None head text m e = first_answers None head text m refl e
row_answers (Some kept) head text m e = chosen_answers kept head text m (is_newer head kept) (is_same head kept) refl refl e

-- ---- over a list of datagrams

not_status : (head : PieceHead) → 1 ≤ head.sender → is_status head ≡ false
not_status head h = let e : (head.sender == 0) ≡ false = grind (arith, nat_tests) in rw e refl

-- what one datagram does to a sender from 1 on
row_keeps_at : (s : ℕ) (j : Joining) (head : PieceHead) (text : List ℕ) (i n : ℕ) → is_above (row_of s (row_taken j head text).joining) i n ≡ true → is_above (row_of s j) i n ≡ true
row_keeps_at s j head text i n h =
    elim (cases_eq s head.sender) [
      | inl e ↦ (let g : is_above (row_of head.sender (row_taken j head text).joining) i n ≡ true = subst (λ (t : ℕ). is_above (row_of t (row_taken j head text).joining) i n ≡ true) e h in
          subst (λ (t : ℕ). is_above (row_of t j) i n ≡ true) (sym e) (row_keeps (row_of head.sender j) head text i n (subst (λ o. is_above o i n ≡ true) (row_after j head text) g)))
      | inr ne ↦ subst (λ o. is_above o i n ≡ true) (others_after s j head text ne) h
    ]

keeps_by : (o : Option Piece) (status : Bool) (s : ℕ) (j : Joining) (b : List ℕ) (i n : ℕ) → piece_at b ≡ o → ((p : Piece) → o ≡ Some p → is_status p.head ≡ status) → is_above (row_of s (taken j b).joining) i n ≡ true → is_above (row_of s j) i n ≡ true
keeps_by None status s j b i n e f h = subst (λ (r : Joined). is_above (row_of s r.joining) i n ≡ true) (none_taken j b e) h
keeps_by (Some p) true s j b i n e f h = subst (λ (r : Joined). is_above (row_of s r.joining) i n ≡ true) (status_taken j b p e (f p refl)) h
keeps_by (Some p) false s j b i n e f h = row_keeps_at s j p.head p.text i n (subst (λ (r : Joined). is_above (row_of s r.joining) i n ≡ true) (piece_is_taken j b p e (f p refl)) h)

datagram_keeps : (s : ℕ) (j : Joining) (b : List ℕ) (i n : ℕ) → is_above (row_of s (taken j b).joining) i n ≡ true → is_above (row_of s j) i n ≡ true
datagram_keeps s j b i n h = keeps_by (piece_at b) (status_of (piece_at b)) s j b i n refl (status_is (piece_at b)) h

-- an answer of a sender from 1 on
answer_step : (j : Joining) (b : List ℕ) (p : Piece) (m : List ℕ) → piece_at b ≡ Some p → 1 ≤ p.head.sender → (taken j b).message ≡ Some m
    → Answers (row_of p.head.sender j) p.head (row_step (row_of p.head.sender j) p.head p.text).0 × (row_of p.head.sender (taken j b).joining ≡ Some (row_step (row_of p.head.sender j) p.head p.text).0)
answer_step j b p m e some h =
    let t = piece_is_taken j b p e (not_status p.head some) in
    let g : (row_step (row_of p.head.sender j) p.head p.text).1 ≡ Some m = sym (message_after j p.head p.text) ∙ (sym (ap (λ (r : Joined). r.message) t) ∙ h) in
    (row_answers (row_of p.head.sender j) p.head p.text m g, ap (λ (r : Joined). row_of p.head.sender r.joining) t ∙ row_after j p.head p.text)

answer_by : (j : Joining) (b : List ℕ) (o : Option Piece) (r : Option (List ℕ)) (a : Message) → piece_at b ≡ o → (taken j b).message ≡ r → Among a (answer_for o r) → 1 ≤ a.sender → is_above (row_of a.sender j) a.incarnation a.number ≡ true
answer_by j b None r a e f h some = absurd h
answer_by j b (Some p) None a e f h some = absurd h
answer_by j b (Some p) (Some m) a e f (inr h) some = absurd h
answer_by j b (Some p) (Some m) a e f (inl is) some =
    let s : a.sender ≡ p.head.sender = ap (λ (x : Message). x.sender) is in
    let i : a.incarnation ≡ p.head.incarnation = ap (λ (x : Message). x.incarnation) is in
    let n : a.number ≡ p.head.number = ap (λ (x : Message). x.number) is in
    rw (s, i, n) (answer_step j b p m e (omega arith) f).0.above

later_above : (bs : List (List ℕ)) (j : Joining) (a : Message) → Among a (answers_to j bs) → 1 ≤ a.sender → is_above (row_of a.sender j) a.incarnation a.number ≡ true
unfolding answers_to
later_above [] j a h some = absurd h
later_above (b ∷ bs) j a h some =
    elim (has_append a (answer_to j b) (answers_to (taken j b).joining bs) h) [
      | inl here ↦ answer_by j b (piece_at b) (taken j b).message a refl refl here some
      | inr later ↦ datagram_keeps a.sender j b a.incarnation a.number (later_above bs (taken j b).joining a later some)
    ]

rising_by : (j : Joining) (b : List ℕ) (bs : List (List ℕ)) (o : Option Piece) (r : Option (List ℕ)) → piece_at b ≡ o → (taken j b).message ≡ r → AreRising (answers_to (taken j b).joining bs) → AreRising (answer_for o r ++ answers_to (taken j b).joining bs)
rising_by j b bs None r e f rest = rest
rising_by j b bs (Some p) None e f rest = rest
rising_by j b bs (Some p) (Some m) e f rest = (
  (λ (a : Message) (h : Among a (answers_to (taken j b).joining bs)) (some : 1 ≤ p.head.sender) (same : a.sender ≡ p.head.sender).
      let x = answer_step j b p m e some f in
      let k : Kept = (row_step (row_of p.head.sender j) p.head p.text).0 in
      let above = later_above bs (taken j b).joining a h (omega arith) in
      let at : is_above (row_of p.head.sender (taken j b).joining) a.incarnation a.number ≡ true = subst (λ (t : ℕ). is_above (row_of t (taken j b).joining) a.incarnation a.number ≡ true) same above in
      let in_row : above_by k.parts k.incarnation k.number a.incarnation a.number ≡ true = subst (λ o. is_above o a.incarnation a.number ≡ true) x.1 at in
      let done : is_less k.incarnation k.number a.incarnation a.number ≡ true = subst (λ o. above_by o k.incarnation k.number a.incarnation a.number ≡ true) x.0.done in_row in
      moved p.head.incarnation k.incarnation p.head.number k.number (λ i n. is_less i n a.incarnation a.number ≡ true) x.0.incarnation x.0.number done),
  rest,
)

rises : (bs : List (List ℕ)) (j : Joining) → AreRising (answers_to j bs)
unfolding answers_to
rises [] j = tt
rises (b ∷ bs) j = rising_by j b bs (piece_at b) (taken j b).message refl refl (rises bs (taken j b).joining)

pub answered_once : AlwaysAnsweredOnce
answered_once = λ bs. rises bs []
