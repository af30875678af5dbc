-- A session of one call, worked through.
use Rattle.std.specs.Prelude.{ℕ, true, List, [], ◌∷◌, codes}
use Rattle.rsct_packet.specs.Reading.{many_at}
use Rattle.rsct_packet.specs.Fields.{u16_text, u32_text, bytes_text, bytes_at}
use Rattle.rsct_packet.specs.Ids.{risen}
use Rattle.remote_session.specs.Messages.{UpIn, messages_opens}
use Rattle.remote_session.specs.Daemon.{RemoteState, remote_new, up_taken, done_told, daemon_opens}
use Rattle.remote_session.specs.Ending.{remote_ticked, key_ended, ending_opens}
use Rattle.remote_session.specs.Client.{FarState, far_new, far_taken, client_opens}
use Rattle.remote_session.specs.World.{Happening, Begins, Calls, Sends_up, Up_comes, Answers, Occurs, Ticks, Ends, Sends_down, Down_comes, Restarts, World, quiet, after, world_opens}

-- opens every word of the machines and of their messages
unfoldable pub all_opens : Unit {0}
unfolding messages_opens daemon_opens ending_opens client_opens world_opens many_at u16_text u32_text bytes_text bytes_at risen
all_opens = tt

abbrev pub first_line : List ℕ
first_line = codes "client 1 a -"

-- the first call of key 7
abbrev pub first_up : UpIn
first_up = record { key = 7; number = 1; ack = 0; line = first_line }

abbrev pub first_up_bytes : List ℕ
first_up_bytes =
    0x52 ∷ 0x53 ∷ 0x01 ∷ 0x00 ∷ 0x00 ∷ 0x00 ∷ 0x00 ∷ 0x07 ∷ 0x00 ∷ 0x00 ∷ 0x00 ∷ 0x01 ∷ 0x00 ∷ 0x00 ∷ 0x00 ∷ 0x00 ∷ 0x00 ∷ 0x0c ∷ 0x63 ∷ 0x6c ∷ 0x69 ∷ 0x65 ∷ 0x6e ∷ 0x74 ∷ 0x20 ∷ 0x31 ∷ 0x20 ∷ 0x61 ∷ 0x20 ∷ 0x2d ∷ []

-- a daemon of incarnation 5 was given it, and took the call
abbrev pub after_first_up : RemoteState
after_first_up = up_taken (remote_new 5) first_up_bytes

abbrev pub after_first_call : RemoteState
after_first_call = done_told 7 true after_first_up

abbrev pub first_down_bytes : List ℕ
first_down_bytes =
    0x52 ∷ 0x53 ∷ 0x02 ∷ 0x00 ∷ 0x00 ∷ 0x00 ∷ 0x00 ∷ 0x07 ∷ 0x00 ∷ 0x00 ∷ 0x00 ∷ 0x05 ∷ 0x00 ∷ 0x00 ∷ 0x00 ∷ 0x01 ∷ 0x01 ∷ 0x00 ∷ 0x00 ∷ 0x00 ∷ 0x01 ∷ 0x00 ∷ []

-- The Up comes twice, the call is taken, two events occur, of which the first Down carries one, and Downs come twice
-- and the later one first. Then the daemon starts anew, and is given the first Up once more.
abbrev pub repeated : List Happening
repeated =
    Begins 7
    ∷ Calls 7 first_line
    ∷ Sends_up 7
    ∷ Up_comes 0
    ∷ Up_comes 0
    ∷ Answers 7 true
    ∷ Occurs 7 (codes "one")
    ∷ Sends_down 7
    ∷ Occurs 7 (codes "two")
    ∷ Sends_down 7
    ∷ Down_comes 0 7
    ∷ Down_comes 1 7
    ∷ Down_comes 0 7
    ∷ Restarts 6
    ∷ Up_comes 0
    ∷ Sends_down 7
    ∷ Occurs 7 (codes "three")
    ∷ Down_comes 0 7
    ∷ []

abbrev pub at_the_end : World
at_the_end = after (quiet 5) repeated

-- ---- a key that ends

-- two ticks behind its last Up
abbrev pub after_two_ticks : RemoteState
after_two_ticks = remote_ticked (remote_ticked after_first_call)

abbrev pub after_the_end : RemoteState
after_the_end = key_ended 7 after_two_ticks

-- the Down of the key that ended
abbrev pub last_down_bytes : List ℕ
last_down_bytes =
    0x52 ∷ 0x53 ∷ 0x02 ∷ 0x00 ∷ 0x00 ∷ 0x00 ∷ 0x00 ∷ 0x07 ∷ 0x00 ∷ 0x00 ∷ 0x00 ∷ 0x00 ∷ 0x00 ∷ 0x00 ∷ 0x00 ∷ 0x00 ∷ 0x03 ∷ 0x00 ∷ 0x00 ∷ 0x00 ∷ 0x01 ∷ 0x00 ∷ []

-- an end of the key that had a Down before
abbrev pub far_before : FarState
far_before = far_taken (far_new 7) first_down_bytes

-- The call is given out, an event occurs and is never heard, and the key ends. Then its Up comes once more.
abbrev pub ended_and_repeated : List Happening
ended_and_repeated =
    Begins 7
    ∷ Calls 7 first_line
    ∷ Sends_up 7
    ∷ Up_comes 0
    ∷ Answers 7 true
    ∷ Occurs 7 (codes "one")
    ∷ Ticks
    ∷ Ends 7
    ∷ Up_comes 0
    ∷ Occurs 7 (codes "two")
    ∷ Sends_down 7
    ∷ Down_comes 0 7
    ∷ []

abbrev pub at_its_end : World
at_its_end = after (quiet 5) ended_and_repeated
