-- Joining pieces to messages: what a joiner keeps, and what a datagram makes of it.
use Rattle.std.specs.Prelude.{ℕ, Bool, true, false, ◌==◌, ◌&&◌, ◌||◌, nat_lt, List, [], ◌∷◌, length, flat_map, Option, Some, None, is_some, if◌then◌else◌}
use Rattle.std.specs.Ordering.{nat_cmp}
use Rattle.std.specs.BTreeMap.{insert_entry, is_at}
use Rattle.std.specs.Map.{lookup}
use Rattle.piece_link.specs.declared.piece.PieceHead.{PieceHead}
use Rattle.piece_link.specs.declared.kept.Kept.{Kept}
use Rattle.piece_link.specs.Pieces.{Piece, piece_at}

-- the data of the pieces that came, each with its index, in the order of the indices
abbrev pub Parts : Type 0
Parts = List (ℕ × List ℕ)

-- of each sender the message that is kept, in the order in which the senders' first pieces came
abbrev pub Joining : Type 0
Joining = List Kept

-- what a datagram makes of it, and the message that it completes, if it completes one
pub record Joined : Type 0 where
  pub joining : Joining
  pub message : Option (List ℕ)

-- the first incarnation and number are before the second ones
abbrev pub is_less : ℕ → ℕ → ℕ → ℕ → Bool
is_less incarnation number later_incarnation later_number =
    nat_lt incarnation later_incarnation || ((incarnation == later_incarnation) && nat_lt number later_number)

abbrev pub is_newer : PieceHead → Kept → Bool
is_newer head k = is_less k.incarnation k.number head.incarnation head.number

abbrev pub is_same : PieceHead → Kept → Bool
is_same head k = (k.incarnation == head.incarnation) && ((k.number == head.number) && (k.count == head.count))

-- a message of which nothing came
abbrev pub opened : PieceHead → Kept
opened head = record {
  sender = head.sender;
  incarnation = head.incarnation;
  number = head.number;
  count = head.count;
  parts = Some [];
}

abbrev pub has_part : Parts → ℕ → Bool
has_part parts index = is_some (lookup (is_at (nat_cmp index)) parts)

abbrev pub with_part : Parts → ℕ → List ℕ → Parts
with_part parts index text = insert_entry nat_cmp parts index text

abbrev pub whole_of : Parts → List ℕ
whole_of parts = flat_map (λ (e : ℕ × List ℕ). e.1) parts

-- a message that is whole is answered, and its parts are let go
abbrev pub closed : Kept → Parts → Bool → Kept × Option (List ℕ)
closed k parts true = (record k { parts = None }, Some (whole_of parts))
closed k parts false = (record k { parts = Some parts }, None)

-- a piece that came already changes nothing
abbrev pub part_added : Kept → Parts → ℕ → List ℕ → Bool → Kept × Option (List ℕ)
part_added k parts index text true = (k, None)
part_added k parts index text false =
    closed k (with_part parts index text) (length (with_part parts index text) == k.count)

-- of a message that was answered, nothing is kept
abbrev pub part_put : Kept → Option Parts → ℕ → List ℕ → Kept × Option (List ℕ)
part_put k None index text = (k, None)
part_put k (Some parts) index text = part_added k parts index text (has_part parts index)

abbrev pub with_piece : Kept → ℕ → List ℕ → Kept × Option (List ℕ)
with_piece k index text = part_put k k.parts index text

-- a piece of a newer message, of the kept one, or of another
abbrev pub chosen : Kept → PieceHead → List ℕ → Bool → Bool → Kept × Option (List ℕ)
chosen k head text true same = with_piece (opened head) head.index text
chosen k head text false true = with_piece k head.index text
chosen k head text false false = (k, None)

abbrev pub kept_taken : Kept → PieceHead → List ℕ → Kept × Option (List ℕ)
kept_taken k head text = chosen k head text (is_newer head k) (is_same head k)

abbrev pub first_taken : PieceHead → List ℕ → Kept × Option (List ℕ)
first_taken head text = with_piece (opened head) head.index text

-- the row of the sender changes, with what the later rows come to else
abbrev pub row_chosen : Bool → Kept → Joining → PieceHead → List ℕ → Joined → Joined
row_chosen true k ks head text later =
    record { joining = (kept_taken k head text).0 ∷ ks; message = (kept_taken k head text).1 }
row_chosen false k ks head text later = record { joining = k ∷ later.joining; message = later.message }

-- the row of the sender changes, or one more stands at the end
unfoldable pub row_taken : Joining → PieceHead → List ℕ → Joined
row_taken [] head text = record { joining = (first_taken head text).0 ∷ []; message = (first_taken head text).1 }
row_taken (k ∷ ks) head text = row_chosen (k.sender == head.sender) k ks head text (row_taken ks head text)

-- a status client's one piece is joined at once
abbrev pub is_status : PieceHead → Bool
is_status head = (head.sender == 0) && (head.count == 1)

abbrev pub piece_taken : Joining → Piece → Bool → Joined
piece_taken j p true = record { joining = j; message = Some p.text }
piece_taken j p false = row_taken j p.head p.text

abbrev pub taken_if : Joining → Option Piece → Joined
taken_if j None = record { joining = j; message = None }
taken_if j (Some p) = piece_taken j p (is_status p.head)

unfoldable pub taken : Joining → List ℕ → Joined
taken j bytes = taken_if j (piece_at bytes)

abbrev pub joined_as : Joining → Option (List ℕ) → Joined
joined_as joining message = record { joining = joining; message = message }

-- the row of a sender
abbrev pub row_of : ℕ → Joining → Option Kept
row_of sender [] = None
row_of sender (k ∷ ks) = if k.sender == sender then Some k else row_of sender ks
