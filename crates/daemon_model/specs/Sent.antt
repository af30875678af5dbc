-- What a daemon sends: each packet in pieces. A send that fails is a lost packet.
use Rattle.std.specs.Prelude.{◌≡◌, ℕ, ◌+◌, ◌<◌, ◌^◌, ◌==◌, ◌&&◌, not, Bool, true, false, List, [], ◌∷◌, ◌++◌, map, Some}
use Rattle.hags_io.specs.declared.link.LinkCall.{LinkCall}
use Rattle.hags_io.specs.declared.link.LinkCall.TheVariants as call
use Rattle.piece_link.specs.Pieces.{can_cut, message_by, pieces_of}
use Rattle.node_state.specs.declared.packet.Packet.{Packet}
use Rattle.node_state.specs.Bytes.{packet_of, bytes_of}

-- ---- packets in pieces

-- a piece goes to a node on a network
abbrev pub piece_to : ℕ → ℕ → List ℕ → LinkCall
piece_to node network piece = call.Sent node network piece true

-- one of a packet goes to the packet's receiver, on the packet's network
abbrev pub piece_call : Packet → List ℕ → LinkCall
piece_call p piece = piece_to p.to p.network piece

-- the pieces of a packet, as the message of this number of this node in this incarnation
abbrev pub packet_pieces : ℕ → ℕ → ℕ → Packet → List (List ℕ)
packet_pieces me incarnation number p = pieces_of (message_by me incarnation number (bytes_of p))

-- what is too long to cut is lost, and takes no number
abbrev pub calls_if : Bool → List LinkCall → List LinkCall
calls_if true calls = calls
calls_if false calls = []

abbrev pub number_if : Bool → ℕ → ℕ
number_if true number = number + 1
number_if false number = number

-- a message of this number of a node in an incarnation, in pieces
abbrev pub message_calls : ℕ → ℕ → ℕ → ℕ → ℕ → List ℕ → List LinkCall
message_calls me incarnation number node network message =
    calls_if (can_cut message) (map (piece_to node network) (pieces_of (message_by me incarnation number message)))

unfoldable pub packet_calls : ℕ → ℕ → ℕ → Packet → List LinkCall
packet_calls me incarnation number p =
    calls_if (can_cut (bytes_of p)) (map (piece_call p) (packet_pieces me incarnation number p))

unfoldable pub number_past : ℕ → Packet → ℕ
number_past number p = number_if (can_cut (bytes_of p)) number

-- and so is one to a node that no network joins with the sender, as to one that the settings lack
abbrev pub goes_out : Packet → Bool
goes_out p = not (p.network == 0) && can_cut (bytes_of p)

unfoldable pub carried_calls : ℕ → ℕ → ℕ → Packet → List LinkCall
carried_calls me incarnation number p =
    calls_if (goes_out p) (map (piece_call p) (packet_pieces me incarnation number p))

unfoldable pub number_over : ℕ → Packet → ℕ
number_over number p = number_if (goes_out p) number

-- ---- what a daemon does at its link

-- a packet as the message of this number of a node in an incarnation
pub record Numbered : Type 0 where
  pub sender : ℕ
  pub incarnation : ℕ
  pub number : ℕ
  pub packet : Packet

-- what is received or sent is of nothing that the daemon cut, where it is received; a piece of a packet; or a piece of a
-- message of this number that is no packet
pub data Of : Type 0 where
  OfNothing : Of
  OfPacket : (numbered : Numbered) → Of
  OfMessage : (number : ℕ) → Of

-- a receive or a send, and of what it is
pub record Exchange : Type 0 where
  pub call : LinkCall
  pub of : Of

abbrev pub plain : LinkCall → Exchange
plain c = record { call = c; of = OfNothing }

abbrev pub piece_of : Numbered → LinkCall → Exchange
piece_of n c = record { call = c; of = OfPacket n }

-- a piece of a message of this number that is no packet
abbrev pub said : ℕ → LinkCall → Exchange
said number c = record { call = c; of = OfMessage number }

abbrev pub call_of : Exchange → LinkCall
call_of x = x.call

abbrev pub numbered : ℕ → ℕ → ℕ → Packet → Numbered
numbered me incarnation number p = record { sender = me; incarnation = incarnation; number = number; packet = p }

-- the pieces of a packet that goes out
unfoldable pub carried : ℕ → ℕ → ℕ → Packet → List Exchange
carried me incarnation number p = map (piece_of (numbered me incarnation number p)) (carried_calls me incarnation number p)

-- packets in their order, each with the next number; and the number after them
unfoldable pub sent_calls : ℕ → ℕ → ℕ → List Packet → List Exchange
sent_calls me incarnation number [] = []
sent_calls me incarnation number (p ∷ ps) =
    carried me incarnation number p ++ sent_calls me incarnation (number_over number p) ps

unfoldable pub number_after : ℕ → List Packet → ℕ
number_after number [] = number
number_after number (p ∷ ps) = number_after (number_over number p) ps

-- ---- as if all went out

-- each send as if it went out
abbrev pub as_sent : LinkCall → LinkCall
as_sent (call.Sent node network bytes out) = call.Sent node network bytes true
as_sent (call.Received network bytes) = call.Received network bytes
as_sent call.Quiet = call.Quiet
as_sent call.Failed = call.Failed

-- ---- what a daemon makes of them

-- a packet that is read again as itself, with a number that fits its field
pub record IsSpelled (n : Numbered) : Type 0 where
  pub fits : n.number < 2 ^ 64
  pub read : packet_of (bytes_of n.packet) ≡ Some n.packet

-- a piece of a packet is of one that is spelled, and the number of every other message fits its field
abbrev pub IsSpelledIf : Of → Type 0
IsSpelledIf OfNothing = Unit {0}
IsSpelledIf (OfPacket n) = IsSpelled n
IsSpelledIf (OfMessage number) = number < 2 ^ 64

abbrev pub AllSpelled : List Exchange → Type 0
AllSpelled [] = Unit {0}
AllSpelled (x ∷ xs) = IsSpelledIf x.of × AllSpelled xs

-- opens each word of this file, for a computation
unfoldable pub sent_opens : Unit {0}
unfolding packet_calls number_past carried_calls number_over carried sent_calls number_after
sent_opens = tt
