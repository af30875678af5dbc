-- What a client does in its turns, by what it receives: what it sends, what it writes, and how it stands then.
use Rattle.std.specs.Prelude.{ℕ, ◌+◌, Bool, true, List, [], ◌∷◌, ◌++◌, codes, decimal, drop, flat_map, length, slice_get, Option, Some, None, if◌then◌else◌}
use Rattle.rsct_packet.specs.Ids.{risen}
use Rattle.hags_io.specs.declared.link.LinkCall.{LinkCall}
use Rattle.hags_io.specs.declared.link.LinkCall.TheVariants as call
use Rattle.piece_link.specs.declared.piece.PieceHead.{PieceHead}
use Rattle.piece_link.specs.Pieces.{head_text}
use Rattle.remote_session.specs.declared.far.DownSeen.{DownSeen}
use Rattle.remote_session.specs.declared.far.DownSeen.TheVariants as seen
use Rattle.remote_session.specs.Messages.{up_text}
use Rattle.remote_session.specs.Client.{FarState, may_call, far_called, up_from, far_seen, far_taken}
use Rattle.daemon_model.specs.Daemon.{joined_by}
use Rattle.hags_io.specs.Deeds.{Deed, Exchanged}
use Rattle.hags_io.specs.Fronts.{written}
use Rattle.link_use.specs.Receiving.{received_by}
use Rattle.client_run.specs.declared.client.Client.{Client}

-- ---- the call that is made

abbrev pub made_with : Client → Option (List ℕ) → Client
made_with c None = c
made_with c (Some line) = record c { far = far_called line c.far; made = if may_call c.far then risen c.made else c.made }

-- the next of the lines is made a call, where there is one and the last one has its answer
unfoldable pub call_made : List (List ℕ) → Client → Client
call_made lines c = made_with c (slice_get lines c.made)

-- ---- the Up that is sent

-- it goes out in one piece, as the message of this number of sender 0
abbrev pub up_head : ℕ → PieceHead
up_head number = record { sender = 0; incarnation = 0; number = number; index = 0; count = 1 }

unfoldable pub up_piece : FarState → ℕ → List ℕ
up_piece far number = head_text (up_head number) ++ up_text (up_from far)

unfoldable pub up_call : Client → LinkCall
up_call c = call.Sent c.node c.network (up_piece c.far c.number) true

abbrev pub up_sent : Client → Client
up_sent c = record c { number = c.number + 1 }

-- ---- what a Down brings

-- a line for each event
unfoldable pub event_lines : List (List ℕ) → List ℕ
event_lines lines = flat_map (λ line. line ++ 10 ∷ []) lines

-- the answer to the call of this number
unfoldable pub answer_line : ℕ → Bool → List ℕ
answer_line number taken = codes "did " ++ decimal number ++ (if taken then codes " taken\n" else codes " refused\n")

-- the answer to the next call that had none, if there is one, and the events that were not written yet

abbrev pub answer_text : Client → Option Bool → List ℕ
answer_text c None = []
answer_text c (Some taken) = answer_line (risen c.answered) taken

abbrev pub answered_with : Client → Option Bool → Client
answered_with c None = c
answered_with c (Some taken) = record c { answered = risen c.answered }

unfoldable pub told_text : Client → Option Bool → List ℕ
told_text c answer = answer_text c answer ++ event_lines (drop c.told c.far.heard)

unfoldable pub told_with : Client → Option Bool → Client
told_with c answer = record (answered_with c answer) { told = c.told + length (drop c.told c.far.heard) }

-- what is written of a Down that its end has taken
abbrev pub written_of : Client → DownSeen → List ℕ
written_of c seen.NoMessage = []
written_of c seen.Nothing = told_text c None
written_of c (seen.Answer taken) = told_text c (Some taken)
written_of c (seen.Lost first now) = []
written_of c seen.Full = []

abbrev pub after_seen : Client → DownSeen → Client
after_seen c seen.NoMessage = c
after_seen c seen.Nothing = told_with c None
after_seen c (seen.Answer taken) = told_with c (Some taken)
after_seen c (seen.Lost first now) = c
after_seen c seen.Full = c

abbrev pub far_after : Client → List ℕ → Client
far_after c message = record c { far = far_taken c.far message }

-- a message, where one is whole
abbrev pub seen_in : Client → Option (List ℕ) → DownSeen
seen_in c None = seen.NoMessage
seen_in c (Some message) = far_seen c.far message

abbrev pub heard_in : Client → Option (List ℕ) → Client
heard_in c None = c
heard_in c (Some message) = after_seen (far_after c message) (far_seen c.far message)

abbrev pub text_in : Client → Option (List ℕ) → List ℕ
text_in c None = []
text_in c (Some message) = written_of (far_after c message) (far_seen c.far message)

-- ---- a receive

abbrev pub joined : LinkCall → Client → Client
joined got c = record c { receiving = received_by got c.receiving }

abbrev pub message_by : LinkCall → Client → Option (List ℕ)
message_by got c = (joined_by got c.receiving.joiner).message

unfoldable pub seen_by : LinkCall → Client → DownSeen
seen_by got c = seen_in c (message_by got c)

unfoldable pub heard_by : LinkCall → Client → Client
heard_by got c = heard_in (joined got c) (message_by got c)

unfoldable pub text_by : LinkCall → Client → List ℕ
text_by got c = text_in (joined got c) (message_by got c)

-- ---- a turn: the call, the Up, and one receive

abbrev pub begun : List (List ℕ) → Client → Client
begun lines c = up_sent (call_made lines c)

unfoldable pub turned : List (List ℕ) → Client → LinkCall → Client
turned lines c got = heard_by got (begun lines c)

-- the Up goes out, a receive is done, and what it brings is written
unfoldable pub turn_deeds : List (List ℕ) → Client → LinkCall → List Deed
turn_deeds lines c got = Exchanged (up_call (call_made lines c)) ∷ Exchanged got ∷ written (text_by got (begun lines c))

-- what the message that was whole by it was to the client's end
unfoldable pub turn_seen : List (List ℕ) → Client → LinkCall → DownSeen
turn_seen lines c got = seen_by got (begun lines c)

-- ---- turns

unfoldable pub turned_all : List (List ℕ) → Client → List LinkCall → Client
turned_all lines c [] = c
turned_all lines c (got ∷ gots) = turned_all lines (turned lines c got) gots

-- all that is done in them, in its order
unfoldable pub all_deeds : List (List ℕ) → Client → List LinkCall → List Deed
all_deeds lines c [] = []
all_deeds lines c (got ∷ gots) = turn_deeds lines c got ++ all_deeds lines (turned lines c got) gots

-- opens each word of this file, for a computation
unfoldable pub turns_opens : Unit {0}
unfolding call_made up_piece up_call event_lines answer_line told_text told_with seen_by heard_by text_by turned turn_deeds turn_seen turned_all all_deeds
turns_opens = tt
