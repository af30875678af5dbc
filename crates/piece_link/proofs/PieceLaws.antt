-- The text of a piece, field by field, and its data.
use Rattle.std.proofs.Common.{Vec, Global, ◌≡◌, ℕ, zero, suc, ◌+◌, ◌-◌, ◌*◌, ◌<◌, min, List, [], ◌∷◌, ◌++◌, length, take, drop, refl, ◌∙◌, ap, subst, append_assoc, arith, add-zero, length-drop}
use Rattle.std.specs.Prelude.{map}
use Rattle.std.proofs.lemmas.List.{map-append}
use Rattle.rsct_packet.specs.Fields.{u8_text, u16_text, u32_text, u64_text}
use Rattle.piece_link.specs.declared.piece.PieceHead.{PieceHead}
use Rattle.piece_link.specs.Pieces.{head_text, data_of, piece_count, piece_of, pieces_from, message_of, Message}

pub piece_put : (out text : List ℕ) (head : PieceHead)
    → ((((((((out ++ u16_text 21072) ++ u8_text head.sender) ++ u8_text 0) ++ u32_text head.incarnation) ++ u64_text head.number) ++ u32_text head.index) ++ u32_text head.count) ++ text) ≡ out ++ (head_text head ++ text)
unfolding head_text
piece_put out text head = simp append_assoc

-- the data from a start to an end are those of the index
pub data_is : (bytes : List ℕ) (index end : ℕ) → 1176 * index < length bytes → end ≡ min (length bytes) (1176 * index + 1176)
    → take (end - 1176 * index) (drop (1176 * index) bytes) ≡ data_of bytes index
unfolding data_of
data_is bytes index end h e = take_short (drop (1176 * index) bytes) (end - 1176 * index) 1176 (let n : length (drop (1176 * index) bytes) ≡ length bytes - 1176 * index = length-drop (1176 * index) bytes in omega arith)
  where
    take_short : (xs : List ℕ) (n m : ℕ) → n ≡ min (length xs) m → take n xs ≡ take m xs
    take_short [] zero zero e = refl
    take_short [] zero (suc m) e = refl
    take_short [] (suc n) m e = absurd (omega arith)
    take_short (x ∷ xs) zero zero e = refl
    take_short (x ∷ xs) zero (suc m) e = absurd (omega arith)
    take_short (x ∷ xs) (suc n) zero e = absurd (omega arith)
    take_short (x ∷ xs) (suc n) (suc m) e = let p : n ≡ min (length xs) m = omega arith in ap (λ ys. x ∷ ys) (take_short xs n m p)

-- each piece has data
pub within_message : (len index : ℕ) → index < piece_count len → 1176 * index < len
unfolding piece_count
within_message len index h = omega arith

-- one piece more
pub pieces_more : (m : Message) (index n : ℕ) → pieces_from m index (n + 1) ≡ pieces_from m index n ++ piece_of m (index + n) ∷ []
unfolding pieces_from
pieces_more m index zero = rw add-zero refl
pieces_more m index (suc n) =
    let e : suc n + 1 ≡ suc (n + 1) = omega arith in
    let k : (index + 1) + n ≡ index + suc n = omega arith in
    rw e (ap (λ ys. piece_of m index ∷ ys) (pieces_more m (index + 1) n ∙ ap (λ i. pieces_from m (index + 1) n ++ piece_of m i ∷ []) k))

pub pieces_push : (first : PieceHead) (bytes : List ℕ) (index : ℕ) (before after : List (Vec ℕ Global)) (piece : Vec ℕ Global) (text : List ℕ)
    → first.count ≡ piece_count (length bytes) → map (λ d. d.items) before ≡ pieces_from (message_of first bytes) 0 index → after ≡ before ++ piece ∷ []
    → piece.items ≡ head_text (record first { index = index }) ++ text → text ≡ data_of bytes index
    → map (λ d. d.items) after ≡ pieces_from (message_of first bytes) 0 (index + 1)
pieces_push first bytes index before after piece text count so_far pushed written cited =
    let e : piece.items ≡ piece_of (message_of first bytes) index = rw (written, cited, count) refl in
    let k : 0 + index ≡ index = omega arith in
    let more : pieces_from (message_of first bytes) 0 (index + 1) ≡ pieces_from (message_of first bytes) 0 index ++ piece_of (message_of first bytes) index ∷ [] = subst (λ (i : ℕ). pieces_from (message_of first bytes) 0 (index + 1) ≡ pieces_from (message_of first bytes) 0 index ++ piece_of (message_of first bytes) i ∷ []) k (pieces_more (message_of first bytes) 0 index) in
    rw (pushed, more, map-append (λ (d : Vec ℕ Global). d.items) before (piece ∷ []), so_far, e) refl
