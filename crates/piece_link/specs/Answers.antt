-- What a joiner answers to lists of datagrams: the laws of pieces.
use Rattle.std.specs.Prelude.{◌≡◌, ◌≢◌, ℕ, ◌≤◌, ◌<◌, ◌^◌, ◌*◌, ◌⊎◌, nat_eq, map, Bool, true, false, List, [], ◌∷◌, ◌++◌, length, Option, Some, None}
use Rattle.std.specs.List.{IsDistinct}
use Rattle.piece_link.specs.declared.piece.PieceHead.{PieceHead}
use Rattle.piece_link.specs.declared.kept.Kept.{Kept}
use Rattle.piece_link.specs.Pieces.{Message, Piece, piece_at, pieces_of, head_of}
use Rattle.piece_link.specs.Joining.{Joining, Parts, has_part, is_less, is_newer, is_same, is_status, row_of, taken, whole_of}

abbrev pub Among : {A : Type 0} → A → List A → Type 0
Among x [] = ⊥
Among x (y ∷ ys) = (x ≡ y) ⊎ Among x ys

-- what is kept after these datagrams
unfoldable pub joining_after : Joining → List (List ℕ) → Joining
joining_after j [] = j
joining_after j (b ∷ bs) = joining_after (taken j b).joining bs

-- an answer, as the message that it stands for
abbrev pub answer_for : Option Piece → Option (List ℕ) → List Message
answer_for None bytes = []
answer_for (Some p) None = []
answer_for (Some p) (Some bytes) =
    record { sender = p.head.sender; incarnation = p.head.incarnation; number = p.head.number; bytes = bytes } ∷ []

abbrev pub answer_to : Joining → List ℕ → List Message
answer_to j b = answer_for (piece_at b) (taken j b).message

-- the answers to these datagrams, in their order
unfoldable pub answers_to : Joining → List (List ℕ) → List Message
answers_to j [] = []
answers_to j (b ∷ bs) = answer_to j b ++ answers_to (taken j b).joining bs

-- ---- a message is joined to itself or not at all

-- a message that can be cut, with numbers within their widths
pub record CanBeCut (m : Message) : Type 0 where
  pub sender : m.sender ≤ 32
  pub incarnation : m.incarnation < 2 ^ 32
  pub number : m.number < 2 ^ 64
  pub some : 1 ≤ length m.bytes
  pub most : length m.bytes ≤ 70560000

pub record SameKey (m n : Message) : Type 0 where
  pub sender : m.sender ≡ n.sender
  pub incarnation : m.incarnation ≡ n.incarnation
  pub number : m.number ≡ n.number

-- no two messages have one sender, incarnation and number
abbrev pub AreDistinct : List Message → Type 0
AreDistinct ms = (m n : Message) → Among m ms → Among n ms → SameKey m n → m ≡ n

-- each datagram is a piece of one of the messages: drawn in any order and any number of times
abbrev pub AreDrawn : List Message → List (List ℕ) → Type 0
AreDrawn ms bs = (b : List ℕ) → Among b bs → (m : Message) × Among m ms × Among b (pieces_of m)

-- every answer is one of the messages, bytes and all
abbrev pub AlwaysJoinedToThemselves : Type 0
AlwaysJoinedToThemselves =
    (ms : List Message) (bs : List (List ℕ)) → ((m : Message) → Among m ms → CanBeCut m) → AreDistinct ms → AreDrawn ms bs
    → (a : Message) → Among a (answers_to [] bs) → Among a ms

-- ---- at most once

-- a later answer of a sender from 1 on is of a later incarnation or number
abbrev pub AreRising : List Message → Type 0
AreRising [] = Unit {0}
AreRising (a ∷ later) =
    ((b : Message) → Among b later → 1 ≤ a.sender → b.sender ≡ a.sender → is_less a.incarnation a.number b.incarnation b.number ≡ true)
    × AreRising later

-- whatever datagrams come, forged ones too
abbrev pub AlwaysAnsweredOnce : Type 0
AlwaysAnsweredOnce = (bs : List (List ℕ)) → AreRising (answers_to [] bs)

-- ---- what changes nothing

-- a piece before the kept message of its sender, of the kept one with another count, of one that was answered, or one that came
abbrev pub IsSpent : PieceHead → Kept → Option Parts → Type 0
IsSpent head k None = is_newer head k ≡ false
IsSpent head k (Some parts) = (is_newer head k ≡ false) × ((is_same head k ≡ false) ⊎ (has_part parts head.index ≡ true))

abbrev pub AlwaysUnchanged : Type 0
AlwaysUnchanged =
    (j : Joining) (b : List ℕ)
    → (piece_at b ≡ None → taken j b ≡ record { joining = j; message = None })
    × ((p : Piece) (k : Kept) → piece_at b ≡ Some p → is_status p.head ≡ false → row_of p.head.sender j ≡ Some k → IsSpent p.head k k.parts → taken j b ≡ record { joining = j; message = None })

-- ---- a status client

abbrev pub AlwaysAnsweredAtOnce : Type 0
AlwaysAnsweredAtOnce =
    (j : Joining) (b : List ℕ) (p : Piece) → piece_at b ≡ Some p → is_status p.head ≡ true
    → taken j b ≡ record { joining = j; message = Some p.text }

-- ---- the one kept message of a sender

-- after any datagrams, a sender's row is not before any piece of it that came
abbrev pub AlwaysGreatest : Type 0
AlwaysGreatest =
    (bs : List (List ℕ)) (b : List ℕ) (p : Piece) → Among b bs → piece_at b ≡ Some p → is_status p.head ≡ false
    → (k : Kept) × (row_of p.head.sender (joining_after [] bs) ≡ Some k) × (is_newer p.head k ≡ false)

-- and it is of a piece that came
pub record CameFrom (bs : List (List ℕ)) (sender : ℕ) (k : Kept) : Type 0 where
  pub b : List ℕ
  pub p : Piece
  pub among : Among b bs
  pub is : piece_at b ≡ Some p
  pub of_sender : p.head.sender ≡ sender
  pub incarnation : p.head.incarnation ≡ k.incarnation
  pub number : p.head.number ≡ k.number

abbrev pub AlwaysCame : Type 0
AlwaysCame = (bs : List (List ℕ)) (sender : ℕ) (k : Kept) → row_of sender (joining_after [] bs) ≡ Some k → CameFrom bs sender k

-- ---- what a sender can make it hold

-- of a message that is not whole, at most 59,999 pieces, and at most 1,176 bytes of each
abbrev pub PartsAreBounded : Option Parts → Type 0
PartsAreBounded None = Unit {0}
PartsAreBounded (Some parts) = (length parts < 60000) × (length (whole_of parts) ≤ 1176 * length parts)

-- one row of each sender, and so at most 33
pub record IsBounded (j : Joining) : Type 0 where
  pub rows : length j ≤ 33
  pub apart : IsDistinct nat_eq (map (λ (k : Kept). k.sender) j)
  pub each : (k : Kept) → Among k j → PartsAreBounded k.parts

abbrev pub AlwaysBounded : Type 0
AlwaysBounded = (bs : List (List ℕ)) → IsBounded (joining_after [] bs)

-- ---- answered at the last missing piece

-- the message is newer than what is kept of its sender
abbrev pub is_new : Message → Option Kept → Bool
is_new m None = true
is_new m (Some k) = is_less k.incarnation k.number m.incarnation m.number

abbrev pub IsOfAnother : ℕ → Option Piece → Type 0
IsOfAnother sender None = Unit {0}
IsOfAnother sender (Some p) = p.head.sender ≢ sender

-- of the message's sender only pieces of the message come; what others send, and what is no piece, may stand between
abbrev pub AreOneMessage : Message → List (List ℕ) → Type 0
AreOneMessage m bs = (b : List ℕ) → Among b bs → Among b (pieces_of m) ⊎ IsOfAnother m.sender (piece_at b)

-- the message is answered where the last of its pieces comes, and at none before: with no loss and one message of a sender at a time
pub record AnsweredAt (m : Message) (bs : List (List ℕ)) (b : List ℕ) (answer : Option (List ℕ)) : Type 0 where
  pub last : ((piece : List ℕ) → Among piece (pieces_of m) → Among piece (b ∷ bs)) → answer ≡ Some m.bytes
  pub before : (piece : List ℕ) → Among piece (pieces_of m) → ¬ (Among piece (b ∷ bs)) → answer ≡ None

abbrev pub AlwaysAtLast : Type 0
AlwaysAtLast =
    (m : Message) (j : Joining) (bs : List (List ℕ)) (b : List ℕ) → CanBeCut m → is_status (head_of m 0) ≡ false → is_new m (row_of m.sender j) ≡ true
    → AreOneMessage m bs → Among b (pieces_of m) → ¬ (Among b bs)
    → AnsweredAt m bs b (taken (joining_after j bs) b).message
