-- One piece, and the row of its sender: what the row becomes, what is answered, and that other rows stay.
use Rattle.std.proofs.Common.{◌≡◌, ◌≢◌, ℕ, Bool, true, false, cond, Option, Some, None, List, [], ◌∷◌, length, refl, ◌∙◌, ap, arith}
use Rattle.std.specs.Prelude.{◌==◌}
use Rattle.std.proofs.lemmas.Bool.Decides.{nat_tests}
use Rattle.piece_link.specs.declared.piece.PieceHead.{PieceHead}
use Rattle.piece_link.specs.declared.kept.Kept.{Kept}
use Rattle.piece_link.specs.Joining.{Joining, Parts, is_newer, is_same, opened, has_part, with_part, closed, part_added, part_put, with_piece, chosen, kept_taken, first_taken, row_chosen, row_taken, row_of, is_status, taken}
use Rattle.piece_link.specs.Pieces.{Piece, piece_at}

-- what a piece makes of the row of its sender
abbrev pub row_step : Option Kept → PieceHead → List ℕ → Kept × Option (List ℕ)
row_step None head text = first_taken head text
row_step (Some k) head text = kept_taken k head text

-- a row keeps its message's key and count as pieces are put
pub record SameMessage (k next : Kept) : Type 0 where
  pub sender : next.sender ≡ k.sender
  pub incarnation : next.incarnation ≡ k.incarnation
  pub number : next.number ≡ k.number
  pub count : next.count ≡ k.count

closed_same : (k : Kept) (parts : Parts) (b : Bool) → SameMessage k (closed k parts b).0
closed_same k parts true = record { sender = refl; incarnation = refl; number = refl; count = refl }
closed_same k parts false = record { sender = refl; incarnation = refl; number = refl; count = refl }

added_same : (k : Kept) (parts : Parts) (index : ℕ) (text : List ℕ) (b : Bool) → SameMessage k (part_added k parts index text b).0
added_same k parts index text true = record { sender = refl; incarnation = refl; number = refl; count = refl }
added_same k parts index text false = closed_same k (with_part parts index text) (length (with_part parts index text) == k.count)

pub put_same : (k : Kept) (o : Option Parts) (index : ℕ) (text : List ℕ) → SameMessage k (part_put k o index text).0
put_same k None index text = record { sender = refl; incarnation = refl; number = refl; count = refl }
put_same k (Some parts) index text = added_same k parts index text (has_part parts index)

pub piece_same : (k : Kept) (index : ℕ) (text : List ℕ) → SameMessage k (with_piece k index text).0
piece_same k index text = put_same k k.parts index text

chosen_sender : (k : Kept) (head : PieceHead) (text : List ℕ) (newer same : Bool) → k.sender ≡ head.sender → (chosen k head text newer same).0.sender ≡ head.sender
chosen_sender k head text true same e = (piece_same (opened head) head.index text).sender
chosen_sender k head text false true e = (piece_same k head.index text).sender ∙ e
chosen_sender k head text false false e = e

pub step_sender : (k : Kept) (head : PieceHead) (text : List ℕ) → k.sender ≡ head.sender → (kept_taken k head text).0.sender ≡ head.sender
step_sender k head text e = chosen_sender k head text (is_newer head k) (is_same head k) e

-- ---- the row, the message and the other rows

same_test : (m n : ℕ) → m ≡ n → (m == n) ≡ true
same_test m n e = grind (arith, nat_tests)

found_first : (s : ℕ) (k : Kept) (ks : Joining) → k.sender ≡ s → row_of s (k ∷ ks) ≡ Some k
found_first s k ks e = rw (same_test k.sender s e) refl

row_by : (b : Bool) (k : Kept) (ks : Joining) (head : PieceHead) (text : List ℕ) → (k.sender == head.sender) ≡ b
    → row_of head.sender (row_taken ks head text).joining ≡ Some (row_step (row_of head.sender ks) head text).0
    → row_of head.sender (row_chosen b k ks head text (row_taken ks head text)).joining ≡ Some (row_step (cond b (Some k) (row_of head.sender ks)) head text).0
row_by true k ks head text e rest =
    let s : k.sender ≡ head.sender = grind (arith, nat_tests) in
    found_first head.sender (kept_taken k head text).0 ks (step_sender k head text s)
row_by false k ks head text e rest = rw e rest

pub row_after : (j : Joining) (head : PieceHead) (text : List ℕ) → row_of head.sender (row_taken j head text).joining ≡ Some (row_step (row_of head.sender j) head text).0
unfolding row_taken
row_after [] head text = found_first head.sender (first_taken head text).0 [] (piece_same (opened head) head.index text).sender
row_after (k ∷ ks) head text = row_by (k.sender == head.sender) k ks head text refl (row_after ks head text)

message_by : (b : Bool) (k : Kept) (ks : Joining) (head : PieceHead) (text : List ℕ)
    → (row_taken ks head text).message ≡ (row_step (row_of head.sender ks) head text).1
    → (row_chosen b k ks head text (row_taken ks head text)).message ≡ (row_step (cond b (Some k) (row_of head.sender ks)) head text).1
message_by true k ks head text rest = refl
message_by false k ks head text rest = rest

pub message_after : (j : Joining) (head : PieceHead) (text : List ℕ) → (row_taken j head text).message ≡ (row_step (row_of head.sender j) head text).1
unfolding row_taken
message_after [] head text = refl
message_after (k ∷ ks) head text = message_by (k.sender == head.sender) k ks head text (message_after ks head text)

other_by : (b : Bool) (s : ℕ) (k : Kept) (ks : Joining) (head : PieceHead) (text : List ℕ) → (k.sender == head.sender) ≡ b → s ≢ head.sender
    → row_of s (row_taken ks head text).joining ≡ row_of s ks
    → row_of s (row_chosen b k ks head text (row_taken ks head text)).joining ≡ row_of s (k ∷ ks)
other_by true s k ks head text e ne rest =
    let at : k.sender ≡ head.sender = grind (arith, nat_tests) in
    let next : (kept_taken k head text).0.sender ≡ head.sender = step_sender k head text at in
    let here : (k.sender == s) ≡ false = grind (arith, nat_tests) in
    let there : ((kept_taken k head text).0.sender == s) ≡ false = grind (arith, nat_tests) in
    rw (here, there) refl
other_by false s k ks head text e ne rest = ap (λ o. cond (k.sender == s) (Some k) o) rest

pub others_after : (s : ℕ) (j : Joining) (head : PieceHead) (text : List ℕ) → s ≢ head.sender → row_of s (row_taken j head text).joining ≡ row_of s j
unfolding row_taken
others_after s [] head text ne =
    let next : (first_taken head text).0.sender ≡ head.sender = (piece_same (opened head) head.index text).sender in
    let there : ((first_taken head text).0.sender == s) ≡ false = grind (arith, nat_tests) in
    rw there refl
others_after s (k ∷ ks) head text ne = other_by (k.sender == head.sender) s k ks head text refl ne (others_after s ks head text ne)

-- ---- a datagram

pub none_taken : (j : Joining) (b : List ℕ) → piece_at b ≡ None → taken j b ≡ record { joining = j; message = None }
unfolding taken
none_taken j b e = rw e refl

pub status_taken : (j : Joining) (b : List ℕ) (p : Piece) → piece_at b ≡ Some p → is_status p.head ≡ true → taken j b ≡ record { joining = j; message = Some p.text }
unfolding taken
status_taken j b p e h = rw (e, h) refl

pub piece_is_taken : (j : Joining) (b : List ℕ) (p : Piece) → piece_at b ≡ Some p → is_status p.head ≡ false → taken j b ≡ row_taken j p.head p.text
unfolding taken
piece_is_taken j b p e h = rw (e, h) refl

-- is it a status client's, where it is a piece?
abbrev pub status_of : Option Piece → Bool
status_of None = false
status_of (Some p) = is_status p.head

pub status_is : (o : Option Piece) (p : Piece) → o ≡ Some p → is_status p.head ≡ status_of o
status_is o p e = rw e refl
