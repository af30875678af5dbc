-- Each piece of a message reads back as what it is.
use Rattle.std.proofs.Common.{◌≡◌, ℕ, zero, suc, ◌+◌, ◌-◌, ◌*◌, ◌^◌, ◌≤◌, ◌<◌, min, Bool, true, false, cond, List, ◌++◌, length, drop, Some, inl, inr, refl, ap, arith, length-drop}
use Rattle.std.specs.Prelude.{nat_le, nat_lt, ◌==◌}
use Rattle.std.proofs.lemmas.Bool.{le-leb, cases_lt}
use Rattle.std.proofs.lemmas.Bool.Decides.{nat_tests}
use Rattle.std.proofs.lemmas.List.{length-take}
use Rattle.rsct_packet.proofs.FormatLaws.{both_format, u8_format, u16_format, u32_format, u64_format}
use Rattle.rsct_packet.proofs.FieldLaws.{both_true}
use Rattle.piece_link.proofs.PieceLaws.{within_message}
use Rattle.piece_link.specs.declared.piece.PieceHead.{PieceHead}
use Rattle.piece_link.specs.Pieces.{Message, is_piece, head_parts, head_at, head_text, piece_at, piece_count, head_of, data_of, piece_of, pieces_from}
use Rattle.piece_link.specs.Answers.{Among, CanBeCut}

pub record IsHead (head : PieceHead) : Type 0 where
  pub sender : head.sender < 256
  pub incarnation : head.incarnation < 2 ^ 32
  pub number : head.number < 2 ^ 64
  pub index : head.index < 2 ^ 32
  pub count : head.count < 2 ^ 32

pub head_again : (head : PieceHead) (rest : List ℕ) → IsHead head → head_at (head_text head ++ rest) ≡ Some (head, rest)
unfolding head_at head_text
head_again head rest h =
    let mark : 21072 < 65536 = omega arith in
    let none : 0 < 256 = omega arith in
    let format = both_format u16_format (both_format u8_format (both_format u8_format (both_format u32_format (both_format u64_format (both_format u32_format u32_format))))) in
    rw (format.again (head_parts head) rest (mark, (h.sender, (none, (h.incarnation, (h.number, (h.index, h.count))))))) refl

pub count_most : (len : ℕ) → len ≤ 70560000 → piece_count len ≤ 60000
unfolding piece_count
count_most len h = omega arith

pub count_some : (len : ℕ) → 1 ≤ len → 1 ≤ piece_count len
unfolding piece_count
count_some len h = omega arith

-- the pieces cover the message
pub count_covers : (len : ℕ) → len ≤ 1176 * piece_count len
unfolding piece_count
count_covers len = omega arith

data_len : (bytes : List ℕ) (index : ℕ) → length (data_of bytes index) ≡ min 1176 (length bytes - 1176 * index)
unfolding data_of
data_len bytes index = omega (arith, length-take 1176 (drop (1176 * index) bytes), length-drop (1176 * index) bytes)

length_fits : (head : PieceHead) (len : ℕ) (b : Bool) → (head.index + 1 == head.count) ≡ b → (head.index + 1 ≡ head.count → len ≤ 1176) → (head.index + 1 < head.count → len ≡ 1176) → head.index < head.count → cond b (nat_le len 1176) (len == 1176) ≡ true
length_fits head len true e last whole below = let one : head.index + 1 ≡ head.count = grind (arith, nat_tests) in le-leb len 1176 (last one)
length_fits head len false e last whole below =
    let other : head.index + 1 < head.count = grind (arith, nat_tests) in
    let n : len ≡ 1176 = whole other in
    grind (arith, nat_tests)

is_data : (m : Message) (index : ℕ) → CanBeCut m → index < piece_count (length m.bytes) → is_piece (head_of m index) (length (data_of m.bytes index)) ≡ true
is_data m index fits below =
    let n : ℕ = length (data_of m.bytes index) in
    let len : n ≡ min 1176 (length m.bytes - 1176 * index) = data_len m.bytes index in
    let start : 1176 * index < length m.bytes = within_message (length m.bytes) index below in
    let lt : nat_lt index (piece_count (length m.bytes)) ≡ true = grind (arith, nat_tests) in
    let few : nat_le (piece_count (length m.bytes)) 60000 ≡ true = le-leb _ _ (count_most (length m.bytes) fits.most) in
    let some : nat_le 1 n ≡ true = le-leb 1 n (omega arith) in
    let whole : index + 1 < piece_count (length m.bytes) → n ≡ 1176 = λ h. let next : 1176 * (index + 1) < length m.bytes = within_message (length m.bytes) (index + 1) h in omega arith in
    let size : cond (index + 1 == piece_count (length m.bytes)) (nat_le n 1176) (n == 1176) ≡ true = length_fits (head_of m index) n _ refl (λ h. omega arith) whole below in
    both_true _ _ (le-leb m.sender 32 fits.sender) (both_true _ _ lt (both_true _ _ few (both_true _ _ some size)))

pub piece_again : (m : Message) (index : ℕ) → CanBeCut m → index < piece_count (length m.bytes) → piece_at (piece_of m index) ≡ Some (record { head = head_of m index; text = data_of m.bytes index })
unfolding piece_at
piece_again m index fits below =
    let most : piece_count (length m.bytes) ≤ 60000 = count_most (length m.bytes) fits.most in
    let sender : m.sender ≤ 32 = fits.sender in
    let head : IsHead (head_of m index) = record { sender = omega arith; incarnation = fits.incarnation; number = fits.number; index = omega arith; count = omega arith } in
    rw (head_again (head_of m index) (data_of m.bytes index) head, is_data m index fits below) refl

-- a piece of a message is the one of an index
pub has_index : (m : Message) (from n : ℕ) (b : List ℕ) → Among b (pieces_from m from n) → (i : ℕ) × (from ≤ i) × (i < from + n) × (b ≡ piece_of m i)
unfolding pieces_from
has_index m from zero b h = absurd h
has_index m from (suc n) b (inl e) = (from, omega arith, omega arith, e)
has_index m from (suc n) b (inr h) = let x = has_index m (from + 1) n b h in (x.0, omega (arith, x.1), omega (arith, x.2), x.3)

pub is_among : (m : Message) (from n i : ℕ) → from ≤ i → i < from + n → Among (piece_of m i) (pieces_from m from n)
unfolding pieces_from
is_among m from zero i low high = absurd (omega arith)
is_among m from (suc n) i low high =
    elim (cases_lt from i) [
      | inl lt ↦ inr (is_among m (from + 1) n i (omega arith) (omega arith))
      | inr le ↦ (let e : i ≡ from = omega arith in inl (ap (λ k. piece_of m k) e))
    ]
