-- Pieces: what a message is cut into. A piece is one datagram: a head of 24 bytes and data.
use Rattle.std.specs.Prelude.{◌≡◌, ℕ, zero, suc, Bool, true, false, ◌==◌, ◌&&◌, ◌+◌, ◌*◌, ◌/◌, nat_lt, nat_le, List, [], ◌∷◌, ◌++◌, length, take, drop, Option, Some, None, if◌then◌else◌}
use Rattle.std.specs.Int.{w8, w16, w32, w64}
use Rattle.rsct_packet.specs.Reading.{number_at, both_at, decoded_at}
use Rattle.rsct_packet.specs.Fields.{u8_text, u16_text, u32_text, u64_text}
use Rattle.piece_link.specs.declared.piece.PieceHead.{PieceHead}

abbrev pub piece_size : ℕ
piece_size = 1176

abbrev pub most_pieces : ℕ
most_pieces = 60000

abbrev pub longest_message : ℕ
longest_message = 70560000

-- a head may stand before so many bytes: the last piece has 1 to 1,176, any other 1,176
abbrev pub fits_data : PieceHead → ℕ → Bool
fits_data head len =
    nat_le 1 len && (if head.index + 1 == head.count then nat_le len piece_size else len == piece_size)

abbrev pub is_piece : PieceHead → ℕ → Bool
is_piece head len =
    nat_le head.sender 32 && (nat_lt head.index head.count && (nat_le head.count most_pieces && fits_data head len))

-- the mark 52 50, the sender, 0, its incarnation, the message's number, the piece's index, and the count of pieces
abbrev pub HeadParts : Type 0
HeadParts = ℕ × (ℕ × (ℕ × (ℕ × (ℕ × (ℕ × ℕ)))))

abbrev pub head_parts : PieceHead → HeadParts
head_parts head = (21072, (head.sender, (0, (head.incarnation, (head.number, (head.index, head.count))))))

abbrev pub head_of_parts : HeadParts → Option PieceHead
head_of_parts p =
    if (p.0 == 21072) && (p.1.1.0 == 0) then Some (record { sender = p.1.0; incarnation = p.1.1.1.0; number = p.1.1.1.1.0; index = p.1.1.1.1.1.0; count = p.1.1.1.1.1.1 })
    else None

unfoldable pub head_at : List ℕ → Option (PieceHead × List ℕ)
head_at bytes = decoded_at head_of_parts (both_at (number_at w16) (both_at (number_at w8) (both_at (number_at w8) (both_at (number_at w32) (both_at (number_at w64) (both_at (number_at w32) (number_at w32))))))) bytes

unfoldable pub head_text : PieceHead → List ℕ
head_text head = u16_text 21072 ++ (u8_text head.sender ++ (u8_text 0 ++ (u32_text head.incarnation ++ (u64_text head.number ++ (u32_text head.index ++ u32_text head.count)))))

pub record Piece : Type 0 where
  pub head : PieceHead
  pub text : List ℕ

abbrev pub piece_if : PieceHead → List ℕ → Bool → Option Piece
piece_if head text true = Some (record { head = head; text = text })
piece_if head text false = None

abbrev pub piece_in : Option (PieceHead × List ℕ) → Option Piece
piece_in None = None
piece_in (Some x) = piece_if x.0 x.1 (is_piece x.0 (length x.1))

-- the piece that a datagram is
unfoldable pub piece_at : List ℕ → Option Piece
piece_at bytes = piece_in (head_at bytes)

-- ---- cutting

-- a message: whose it is, in which incarnation, its number, and its bytes
pub record Message : Type 0 where
  pub sender : ℕ
  pub incarnation : ℕ
  pub number : ℕ
  pub bytes : List ℕ

-- how many pieces a message of so many bytes has
unfoldable pub piece_count : ℕ → ℕ
piece_count len = (len + 1175) / 1176

abbrev pub can_cut : List ℕ → Bool
can_cut bytes = nat_le 1 (length bytes) && nat_le (length bytes) longest_message

abbrev pub head_of : Message → ℕ → PieceHead
head_of m index = record {
  sender = m.sender;
  incarnation = m.incarnation;
  number = m.number;
  index = index;
  count = piece_count (length m.bytes);
}

-- the data of the piece of this index
unfoldable pub data_of : List ℕ → ℕ → List ℕ
data_of bytes index = take 1176 (drop (1176 * index) bytes)

abbrev pub piece_of : Message → ℕ → List ℕ
piece_of m index = head_text (head_of m index) ++ data_of m.bytes index

-- so many pieces, from this index on
unfoldable pub pieces_from : Message → ℕ → ℕ → List (List ℕ)
pieces_from m index zero = []
pieces_from m index (suc n) = piece_of m index ∷ pieces_from m (index + 1) n

-- the datagrams of a message
abbrev pub pieces_of : Message → List (List ℕ)
pieces_of m = pieces_from m 0 (piece_count (length m.bytes))

abbrev pub message_by : ℕ → ℕ → ℕ → List ℕ → Message
message_by sender incarnation number bytes = record { sender = sender; incarnation = incarnation; number = number; bytes = bytes }

-- the message that a head and bytes are of
abbrev pub message_of : PieceHead → List ℕ → Message
message_of head bytes = message_by head.sender head.incarnation head.number bytes

-- the datagrams are more by those of the message
abbrev pub AddsPieces : Message → List (List ℕ) → List (List ℕ) → Type 0
AddsPieces m before after = after ≡ before ++ pieces_of m
