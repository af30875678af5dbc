-- The kept message of a sender is the greatest of which a piece came.
use Rattle.std.proofs.Common.{◌≡◌, ℕ, Bool, true, false, Option, Some, None, List, [], ◌∷◌, inl, inr, refl, sym, ◌∙◌, ap, subst}
use Rattle.std.specs.Prelude.{◌⊎◌}
use Rattle.std.proofs.lemmas.Bool.{cases_eq}
use Rattle.piece_link.specs.declared.piece.PieceHead.{PieceHead}
use Rattle.piece_link.specs.declared.kept.Kept.{Kept}
use Rattle.piece_link.specs.Joining.{Joining, Joined, is_less, is_newer, is_same, is_status, opened, with_piece, chosen, first_taken, row_taken, row_of, taken}
use Rattle.piece_link.specs.Pieces.{Piece, piece_at}
use Rattle.piece_link.specs.Answers.{Among, joining_after, AlwaysGreatest, CameFrom, AlwaysCame}
use Rattle.piece_link.proofs.OrderLaws.{less_trans, less_same}
use Rattle.piece_link.proofs.StepLaws.{row_step, piece_same, row_after, others_after, none_taken, status_taken, piece_is_taken, status_of, status_is}

-- the row is there, and is not before this incarnation and number
abbrev pub Reaches : Option Kept → ℕ → ℕ → Type 0
Reaches o i n = (k : Kept) × (o ≡ Some k) × (is_less k.incarnation k.number i n ≡ false)

not_less : (i n j k p q : ℕ) (b : Bool) → is_less j k p q ≡ b → is_less i n j k ≡ true → is_less i n p q ≡ false → is_less j k p q ≡ false
not_less i n j k p q true e g h = let t = less_trans i n j k p q g e in absurd cc
not_less i n j k p q false e g h = e

moved : (i j n k : ℕ) (P : ℕ → ℕ → Type 0) → i ≡ j → n ≡ k → P j k → P i n
moved i j n k P e f h = subst (λ x. P x n) (sym e) (subst (λ y. P j y) (sym f) h)

reach_chosen : (kept : Kept) (head : PieceHead) (text : List ℕ) (newer same : Bool) (i n : ℕ) → is_newer head kept ≡ newer → is_less kept.incarnation kept.number i n ≡ false → Reaches (Some (chosen kept head text newer same).0) i n
reach_chosen kept head text true same i n e h =
    let s = piece_same (opened head) head.index text in
    let f = not_less kept.incarnation kept.number head.incarnation head.number i n (is_less head.incarnation head.number i n) refl e h in
    ((with_piece (opened head) head.index text).0, refl, moved _ head.incarnation _ head.number (λ x y. is_less x y i n ≡ false) s.incarnation s.number f)
reach_chosen kept head text false true i n e h =
    let s = piece_same kept head.index text in
    ((with_piece kept head.index text).0, refl, moved _ kept.incarnation _ kept.number (λ x y. is_less x y i n ≡ false) s.incarnation s.number h)
reach_chosen kept head text false false i n e h = (kept, refl, h)

-- what reaches goes on reaching
reach_step : (o : Option Kept) (head : PieceHead) (text : List ℕ) (i n : ℕ) → Reaches o i n → Reaches (Some (row_step o head text).0) i n
reach_step None head text i n h = let e = h.1 in absurd cc
reach_step (Some kept) head text i n h =
    let e : kept ≡ h.0 = (let f = h.1 in cc) in
    reach_chosen kept head text (is_newer head kept) (is_same head kept) i n refl (subst (λ (k : Kept). is_less k.incarnation k.number i n ≡ false) (sym e) h.2)

first_reaches : (head : PieceHead) (text : List ℕ) → Reaches (Some (first_taken head text).0) head.incarnation head.number
first_reaches head text =
    let s = piece_same (opened head) head.index text in
    ((first_taken head text).0, refl, moved _ head.incarnation _ head.number (λ x y. is_less x y head.incarnation head.number ≡ false) s.incarnation s.number (less_same head.incarnation head.number))

start_chosen : (kept : Kept) (head : PieceHead) (text : List ℕ) (newer same : Bool) → is_newer head kept ≡ newer → Reaches (Some (chosen kept head text newer same).0) head.incarnation head.number
start_chosen kept head text true same e = first_reaches head text
start_chosen kept head text false same e = reach_chosen kept head text false same head.incarnation head.number e e

-- what came reaches itself
start_step : (o : Option Kept) (head : PieceHead) (text : List ℕ) → Reaches (Some (row_step o head text).0) head.incarnation head.number
start_step None head text = first_reaches head text
start_step (Some kept) head text = start_chosen kept head text (is_newer head kept) (is_same head kept) refl

reach_row : (s : ℕ) (j : Joining) (head : PieceHead) (text : List ℕ) (i n : ℕ) → Reaches (row_of s j) i n → Reaches (row_of s (row_taken j head text).joining) i n
reach_row s j head text i n h =
    elim (cases_eq s head.sender) [
      | inl e ↦ (let g : Reaches (row_of head.sender j) i n = subst (λ (t : ℕ). Reaches (row_of t j) i n) e h in
          subst (λ (t : ℕ). Reaches (row_of t (row_taken j head text).joining) i n) (sym e) (subst (λ o. Reaches o i n) (sym (row_after j head text)) (reach_step (row_of head.sender j) head text i n g)))
      | inr ne ↦ subst (λ o. Reaches o i n) (sym (others_after s j head text ne)) h
    ]

reach_by : (o : Option Piece) (status : Bool) (s : ℕ) (j : Joining) (b : List ℕ) (i n : ℕ) → piece_at b ≡ o → ((p : Piece) → o ≡ Some p → is_status p.head ≡ status) → Reaches (row_of s j) i n → Reaches (row_of s (taken j b).joining) i n
reach_by None status s j b i n e f h = subst (λ (r : Joined). Reaches (row_of s r.joining) i n) (sym (none_taken j b e)) h
reach_by (Some p) true s j b i n e f h = subst (λ (r : Joined). Reaches (row_of s r.joining) i n) (sym (status_taken j b p e (f p refl))) h
reach_by (Some p) false s j b i n e f h = subst (λ (r : Joined). Reaches (row_of s r.joining) i n) (sym (piece_is_taken j b p e (f p refl))) (reach_row s j p.head p.text i n h)

reach_on : (bs : List (List ℕ)) (s : ℕ) (j : Joining) (i n : ℕ) → Reaches (row_of s j) i n → Reaches (row_of s (joining_after j bs)) i n
unfolding joining_after
reach_on [] s j i n h = h
reach_on (b ∷ bs) s j i n h = reach_on bs s (taken j b).joining i n (reach_by (piece_at b) (status_of (piece_at b)) s j b i n refl (status_is (piece_at b)) h)

greatest_from : (bs : List (List ℕ)) (j : Joining) (b : List ℕ) (p : Piece) → Among b bs → piece_at b ≡ Some p → is_status p.head ≡ false → Reaches (row_of p.head.sender (joining_after j bs)) p.head.incarnation p.head.number
unfolding joining_after
greatest_from [] j b p h e f = absurd h
greatest_from (c ∷ bs) j b p (inl same) e f =
    let at : piece_at c ≡ Some p = ap piece_at (sym same) ∙ e in
    let row : row_of p.head.sender (taken j c).joining ≡ Some (row_step (row_of p.head.sender j) p.head p.text).0 = ap (λ (r : Joined). row_of p.head.sender r.joining) (piece_is_taken j c p at f) ∙ row_after j p.head p.text in
    reach_on bs p.head.sender (taken j c).joining p.head.incarnation p.head.number (subst (λ o. Reaches o p.head.incarnation p.head.number) (sym row) (start_step (row_of p.head.sender j) p.head p.text))
greatest_from (c ∷ bs) j b p (inr h) e f = greatest_from bs (taken j c).joining b p h e f

pub greatest : AlwaysGreatest
greatest = λ bs b p among is other. greatest_from bs [] b p among is other

-- ---- where it came from

-- of what stood, or of this piece
abbrev pub IsFrom : Option Kept → PieceHead → Kept → Type 0
IsFrom o head k =
    ((old : Kept) × (o ≡ Some old) × (old.incarnation ≡ k.incarnation) × (old.number ≡ k.number)) ⊎ ((head.incarnation ≡ k.incarnation) × (head.number ≡ k.number))

first_from : (o : Option Kept) (head : PieceHead) (text : List ℕ) → IsFrom o head (first_taken head text).0
first_from o head text = let s = piece_same (opened head) head.index text in inr (sym s.incarnation, sym s.number)

chosen_from : (kept : Kept) (head : PieceHead) (text : List ℕ) (newer same : Bool) → IsFrom (Some kept) head (chosen kept head text newer same).0
chosen_from kept head text true same = first_from (Some kept) head text
chosen_from kept head text false true = let s = piece_same kept head.index text in inl (kept, refl, sym s.incarnation, sym s.number)
chosen_from kept head text false false = inl (kept, refl, refl, refl)

step_from : (o : Option Kept) (head : PieceHead) (text : List ℕ) → IsFrom o head (row_step o head text).0
step_from None head text = first_from None head text
step_from (Some kept) head text = chosen_from kept head text (is_newer head kept) (is_same head kept)

abbrev pub Old : Option Kept → Kept → Type 0
Old o k = (old : Kept) × (o ≡ Some old) × (old.incarnation ≡ k.incarnation) × (old.number ≡ k.number)

came_now : (s : ℕ) (b : List ℕ) (bs : List (List ℕ)) (j : Joining) (p : Piece) (k : Kept) → piece_at b ≡ Some p → row_of s (row_taken j p.head p.text).joining ≡ Some k → CameFrom (b ∷ bs) s k ⊎ Old (row_of s j) k
came_now s b bs j p k e row =
    elim (cases_eq s p.head.sender) [
      | inl same ↦ (
          let g : row_of p.head.sender (row_taken j p.head p.text).joining ≡ Some k = subst (λ (t : ℕ). row_of t (row_taken j p.head p.text).joining ≡ Some k) same row in
          let is : (row_step (row_of p.head.sender j) p.head p.text).0 ≡ k = (let h = sym (row_after j p.head p.text) ∙ g in cc) in
          let f : IsFrom (row_of p.head.sender j) p.head k = subst (λ (x : Kept). IsFrom (row_of p.head.sender j) p.head x) is (step_from (row_of p.head.sender j) p.head p.text) in
          elim f [
            | inl old ↦ inr (subst (λ (t : ℕ). Old (row_of t j) k) (sym same) old)
            | inr key ↦ inl (record { b = b; p = p; among = inl refl; is = e; of_sender = sym same; incarnation = key.0; number = key.1 })
          ])
      | inr ne ↦ inr (k, sym (others_after s j p.head p.text ne) ∙ row, refl, refl)
    ]

came_by : (o : Option Piece) (status : Bool) (s : ℕ) (b : List ℕ) (bs : List (List ℕ)) (j : Joining) (k : Kept) → piece_at b ≡ o → ((p : Piece) → o ≡ Some p → is_status p.head ≡ status) → row_of s (taken j b).joining ≡ Some k → CameFrom (b ∷ bs) s k ⊎ Old (row_of s j) k
came_by None status s b bs j k e f row = inr (k, subst (λ (r : Joined). row_of s r.joining ≡ Some k) (none_taken j b e) row, refl, refl)
came_by (Some p) true s b bs j k e f row = inr (k, subst (λ (r : Joined). row_of s r.joining ≡ Some k) (status_taken j b p e (f p refl)) row, refl, refl)
came_by (Some p) false s b bs j k e f row = came_now s b bs j p k e (subst (λ (r : Joined). row_of s r.joining ≡ Some k) (piece_is_taken j b p e (f p refl)) row)

later_came : (bs : List (List ℕ)) (b : List ℕ) (s : ℕ) (k : Kept) → CameFrom bs s k → CameFrom (b ∷ bs) s k
later_came bs b s k c = record { b = c.b; p = c.p; among = inr c.among; is = c.is; of_sender = c.of_sender; incarnation = c.incarnation; number = c.number }

rekeyed : (bs : List (List ℕ)) (s : ℕ) (k old : Kept) → old.incarnation ≡ k.incarnation → old.number ≡ k.number → CameFrom bs s old → CameFrom bs s k
rekeyed bs s k old i n c = record { b = c.b; p = c.p; among = c.among; is = c.is; of_sender = c.of_sender; incarnation = c.incarnation ∙ i; number = c.number ∙ n }

came_from : (bs : List (List ℕ)) (j : Joining) (s : ℕ) (k : Kept) → row_of s (joining_after j bs) ≡ Some k → CameFrom bs s k ⊎ Old (row_of s j) k
unfolding joining_after
came_from [] j s k row = inr (k, row, refl, refl)
came_from (b ∷ bs) j s k row =
    elim (came_from bs (taken j b).joining s k row) [
      | inl c ↦ inl (later_came bs b s k c)
      | inr old ↦ elim (came_by (piece_at b) (status_of (piece_at b)) s b bs j old.0 refl (status_is (piece_at b)) old.1) [
        | inl c ↦ inl (rekeyed (b ∷ bs) s k old.0 old.2 old.3 c)
        | inr older ↦ inr (older.0, older.1, older.2 ∙ old.2, older.3 ∙ old.3)
      ]
    ]

pub came : AlwaysCame
came = λ bs s k row. elim (came_from bs [] s k row) [ inl c ↦ c | inr old ↦ (let e = old.1 in absurd cc) ]
