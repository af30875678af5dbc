-- The two messages of a client session: Up goes to the daemon, Down to the client's end.
use Rattle.std.specs.Prelude.{ℕ, ◌≤◌, ◌==◌, nat_le, List, ◌++◌, length, Option, Some, None, if◌then◌else◌}
use Rattle.std.specs.Int.{w8, w32}
use Rattle.rsct_packet.specs.Reading.{number_at, both_at, decoded_at, guarded_at, counted_at}
use Rattle.rsct_packet.specs.Format.{EachFits, counted_text}
use Rattle.rsct_packet.specs.Fields.{IsU32, AreShort, u8_text, u32_text, bytes_text, bytes_at}
use Rattle.packet_bodies.specs.Body.{whole_at}
use Rattle.remote_session.specs.declared.messages.Answer.{Answer}
use Rattle.remote_session.specs.declared.messages.Answer.TheVariants.{NoAnswer, Taken, Refused, Full}

-- how many bytes a call's line has at most
abbrev pub max_line : ℕ
max_line = 1100

-- how many events a Down has at most
abbrev pub max_events : ℕ
max_events = 16

-- Up: whose it is, the number of the client's last call, how many events were heard, and the line of that call,
-- empty where it has its answer

pub record UpIn : Type 0 where
  pub key : ℕ
  pub number : ℕ
  pub ack : ℕ
  pub line : List ℕ

pub record IsUp (u : UpIn) : Type 0 where
  pub key : IsU32 u.key
  pub number : IsU32 u.number
  pub ack : IsU32 u.ack
  pub line : length u.line ≤ max_line

-- the bytes 52 53, the 1 of an Up and a 0
abbrev pub up_mark : ℕ
up_mark = 0x5253_0100

abbrev pub UpParts : Type 0
UpParts = ℕ × (ℕ × (ℕ × (ℕ × List ℕ)))

abbrev pub up_parts : UpIn → UpParts
up_parts u = (up_mark, (u.key, (u.number, (u.ack, u.line))))

abbrev pub up_of_parts : UpParts → Option UpIn
up_of_parts p = if p.0 == up_mark then Some (record { key = p.1.0; number = p.1.1.0; ack = p.1.1.1.0; line = p.1.1.1.1 }) else None

unfoldable pub up_text : UpIn → List ℕ
up_text u = u32_text up_mark ++ (u32_text u.key ++ (u32_text u.number ++ (u32_text u.ack ++ bytes_text u.line)))

unfoldable pub up_at : List ℕ → Option (UpIn × List ℕ)
up_at bytes = guarded_at (λ u. nat_le (length u.line) max_line) (decoded_at up_of_parts (both_at (number_at w32) (both_at (number_at w32) (both_at (number_at w32) (both_at (number_at w32) bytes_at))))) bytes

-- Down: whose it is, the daemon's incarnation, how many calls were answered and the last answer, and events in
-- order with the number of the first

pub record DownIn : Type 0 where
  pub key : ℕ
  pub incarnation : ℕ
  pub done : ℕ
  pub answer : Answer
  pub first : ℕ
  pub events : List (List ℕ)

pub record IsDown (d : DownIn) : Type 0 where
  pub key : IsU32 d.key
  pub incarnation : IsU32 d.incarnation
  pub done : IsU32 d.done
  pub first : IsU32 d.first
  pub few : length d.events ≤ max_events
  pub each : EachFits AreShort d.events

abbrev pub answer_code : Answer → ℕ
answer_code NoAnswer = 0
answer_code Taken = 1
answer_code Refused = 2
answer_code Full = 3

abbrev pub answer_of : ℕ → Option Answer
answer_of n = if n == 0 then Some NoAnswer else if n == 1 then Some Taken else if n == 2 then Some Refused else if n == 3 then Some Full else None

unfoldable pub answer_at : List ℕ → Option (Answer × List ℕ)
answer_at bytes = decoded_at answer_of (number_at w8) bytes

-- the bytes 52 53, the 2 of a Down and a 0
abbrev pub down_mark : ℕ
down_mark = 0x5253_0200

abbrev pub DownParts : Type 0
DownParts = ℕ × (ℕ × (ℕ × (ℕ × (Answer × (ℕ × List (List ℕ))))))

abbrev pub down_parts : DownIn → DownParts
down_parts d = (down_mark, (d.key, (d.incarnation, (d.done, (d.answer, (d.first, d.events))))))

abbrev pub down_of_parts : DownParts → Option DownIn
down_of_parts p = if p.0 == down_mark then Some (record { key = p.1.0; incarnation = p.1.1.0; done = p.1.1.1.0; answer = p.1.1.1.1.0; first = p.1.1.1.1.1.0; events = p.1.1.1.1.1.1 }) else None

unfoldable pub down_text : DownIn → List ℕ
down_text d = u32_text down_mark ++ (u32_text d.key ++ (u32_text d.incarnation ++ (u32_text d.done ++ (u8_text (answer_code d.answer) ++ (u32_text d.first ++ counted_text w8 bytes_text d.events)))))

-- all of it but the events
unfoldable pub down_head_text : ℕ → ℕ → ℕ → Answer → ℕ → List ℕ
down_head_text key incarnation done answer first = u32_text down_mark ++ (u32_text key ++ (u32_text incarnation ++ (u32_text done ++ (u8_text (answer_code answer) ++ u32_text first))))

unfoldable pub down_at : List ℕ → Option (DownIn × List ℕ)
down_at bytes = guarded_at (λ d. nat_le (length d.events) max_events) (decoded_at down_of_parts (both_at (number_at w32) (both_at (number_at w32) (both_at (number_at w32) (both_at (number_at w32) (both_at answer_at (both_at (number_at w32) (counted_at w8 bytes_at)))))))) bytes

-- a whole datagram

unfoldable pub up_of : List ℕ → Option UpIn
up_of bytes = whole_at up_at bytes

unfoldable pub down_of : List ℕ → Option DownIn
down_of bytes = whole_at down_at bytes

-- opens each word of this file, for a computation
unfoldable pub messages_opens : Unit {0}
unfolding up_text up_at answer_at down_text down_head_text down_at up_of down_of
messages_opens = tt
