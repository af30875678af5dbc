-- Small lives of a daemon that is asked about itself, for worked examples: node 1 in incarnation 5, alone.
use Rattle.std.specs.Prelude.{ℕ, List, [], ◌∷◌, codes, slice_index_or}
use Rattle.hags_io.specs.declared.link.LinkCall.TheVariants as call
use Rattle.piece_link.specs.Pieces.{message_by, pieces_of}
use Rattle.node_state.specs.declared.call.CallLine.TheVariants as line
use Rattle.remote_session.specs.Messages.{up_text}
use Rattle.self_questions.specs.declared.messages.SelfWhat.{SelfWhat}
use Rattle.self_questions.specs.declared.messages.SelfWhat.TheVariants.{Hagscl, Hagsd}
use Rattle.self_questions.specs.Messages.{question_text, reply_text}
use Rattle.daemon_model.specs.Daemon.{Daemon, Turn, Life, serves_nobody, lived}
use Rattle.daemon_model.specs.Samples.{settings_for, silent, turn_at, quiet_at, failed_at, given_at}

-- question 9 about this, and the reply to it with this text, as the message of this number of the daemon
unfoldable pub asks_itself : SelfWhat → List ℕ
asks_itself what = slice_index_or (pieces_of (message_by 0 0 1 (question_text (record { what = what; question = 9 })))) 0 []

unfoldable pub tells_itself : ℕ → SelfWhat → List ℕ → List ℕ
tells_itself message what text = slice_index_or (pieces_of (message_by 1 5 message (reply_text (record { what = what; question = 9 }) text))) 0 []

-- a daemon without options: a tick, two bytes that are no piece, a receive that fails, and then the question on network 2
unfoldable pub asked_unserved : List Turn
asked_unserved = quiet_at 0 ∷ given_at 100 (1 ∷ 2 ∷ []) ∷ failed_at 150 ∷ turn_at 160 (call.Received 2 (asks_itself Hagsd)) ∷ []

abbrev pub unserved_text : List ℕ
unserved_text = codes "hagsd 1.5 version=0.0.0 settings=0000000000000000 turns=4 ticks=1 received=2 strays=1 sent=0 failed=1 keys=0 ended=0\n"

-- an Up of a key
unfoldable pub key_piece : ℕ → ℕ → List ℕ → List ℕ
key_piece key number text = slice_index_or (pieces_of (message_by 0 0 1 (up_text (record { key = key; number = number; ack = 0; line = text })))) 0 []

-- Two clients on other machines: that of key 7 is silent for two ticks, and that of key 8 for one, with an event that it has
-- not heard.
unfoldable pub two_served : List Turn
two_served =
    given_at 0 (key_piece 7 1 (codes "client 1 a -")) ∷ given_at 100 (key_piece 8 1 (codes "client 1 b -")) ∷ given_at 150 (key_piece 8 2 (codes "leave b db 1")) ∷ quiet_at 200 ∷ []

abbrev pub two_clients : List ℕ
two_clients = codes "hagscl a key=7 silent=2 unread=0 members=-\nhagscl b key=8 silent=1 unread=1 members=-\n"

-- a client of the settings
unfoldable pub hosting : Life
hosting =
    record {
      service = serves_nobody;
      start = 0;
      opening = record { call = line.Init 1 (codes "c") (codes "-"); answers = silent } ∷ [];
      turns = given_at 0 (asks_itself Hagscl) ∷ [];
    }

unfoldable pub hosted : Daemon
hosted = lived (settings_for (1 ∷ [])) 1 5 hosting

-- opens each word of this file, for a computation
unfoldable pub self_samples_opens : Unit {0}
unfolding asks_itself tells_itself asked_unserved key_piece two_served hosting hosted
self_samples_opens = tt
