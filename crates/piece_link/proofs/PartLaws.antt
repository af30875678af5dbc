-- A piece put to the parts of a message.
use Rattle.std.proofs.Common.{◌≡◌, ◌≢◌, ℕ, ◌+◌, true, false, List, length, Some, None, refl, arith, append-nil}
use Rattle.std.specs.Prelude.{◌==◌}
use Rattle.std.proofs.lemmas.Bool.Decides.{nat_tests}
use Rattle.piece_link.specs.declared.piece.PieceHead.{PieceHead}
use Rattle.piece_link.specs.declared.kept.Kept.{Kept}
use Rattle.piece_link.specs.Joining.{Parts, has_part, with_part, opened, first_taken, whole_of, with_piece}
use Rattle.piece_link.proofs.SlotLaws.{one_more}

pub only_piece : (head : PieceHead) (text : List ℕ) → head.count ≡ 1 → first_taken head text ≡ (record (opened head) { parts = None }, Some text)
only_piece head text e =
    let one : (1 == head.count) ≡ true = grind (arith, nat_tests) in
    rw (one, append-nil text) refl

-- a piece that had not come, and not the last
pub put_open : (k : Kept) (parts new : Parts) (index : ℕ) (text : List ℕ) → k.parts ≡ Some parts → has_part parts index ≡ false → length parts + 1 ≢ k.count → new ≡ with_part parts index text
    → (record k { parts = Some new }, None) ≡ with_piece k index text
put_open k parts new index text is none ne e =
    let size : length (with_part parts index text) ≡ length parts + 1 = one_more parts index text none in
    let not_last : (length (with_part parts index text) == k.count) ≡ false = grind (arith, nat_tests) in
    rw (is, none, not_last, e) refl

-- the last
pub put_last : (k : Kept) (parts : Parts) (index : ℕ) (text message : List ℕ) → k.parts ≡ Some parts → has_part parts index ≡ false → length parts + 1 ≡ k.count → message ≡ whole_of (with_part parts index text)
    → (record k { parts = None }, Some message) ≡ with_piece k index text
put_last k parts index text message is none last e =
    let size : length (with_part parts index text) ≡ length parts + 1 = one_more parts index text none in
    let whole : (length (with_part parts index text) == k.count) ≡ true = grind (arith, nat_tests) in
    rw (is, none, whole, e) refl
