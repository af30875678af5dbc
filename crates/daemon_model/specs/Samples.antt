-- Small lives of a daemon, for worked examples: node 1 in incarnation 5, at port 4000, without clients.
use Rattle.std.specs.Prelude.{ℕ, Bool, true, false, List, [], map, codes, replicate, slice_index_or, Some, None}
use Rattle.hags_io.specs.declared.link.LinkCall.{LinkCall}
use Rattle.hags_io.specs.declared.link.LinkCall.TheVariants as call
use Rattle.piece_link.specs.Pieces.{message_by, pieces_of}
use Rattle.piece_link.specs.declared.kept.Kept.{Kept}
use Rattle.packet_bodies.specs.declared.body.What.TheVariants.{Hats}
use Rattle.node_state.specs.declared.config.Config.{Config}
use Rattle.node_state.specs.declared.config.Mode.TheVariants.{Rings}
use Rattle.node_state.specs.declared.packet.Body.TheVariants as body
use Rattle.node_state.specs.declared.packet.Packet.{Packet}
use Rattle.node_state.specs.Bytes.{bytes_of}
use Rattle.node_state.specs.HandOn.{Answering}
use Rattle.world_model.specs.Load.{settings_of}
use Rattle.remote_session.specs.declared.messages.Answer.{Answer}
use Rattle.remote_session.specs.Messages.{up_text, down_text}
use Rattle.daemon_model.specs.declared.options.RemoteService.TheVariants as remotes
use Rattle.daemon_model.specs.Sent.{call_of}
use Rattle.daemon_model.specs.Daemon.{Daemon, Turn, plain_service, serves_nobody, lived}

unfoldable pub settings_for : List ℕ → Config
settings_for nodes = record (settings_of Rings nodes) { port = 4000 }

-- nobody answers
unfoldable pub silent : Answering
silent place sessions entry after p = None

abbrev pub turn_at : ℕ → LinkCall → Turn
turn_at moment got = record { moment = moment; tick = silent; ends = []; mends = None; got = got; answers = silent }

-- it starts at moment 0, in a domain of these nodes
unfoldable pub daemon_after : List ℕ → List Turn → Daemon
daemon_after nodes turns = lived (settings_for nodes) 1 5 (record { service = serves_nobody; start = 0; opening = []; turns = turns })

-- one that serves clients on other machines
unfoldable pub server_after : List ℕ → List Turn → Daemon
server_after nodes turns = lived (settings_for nodes) 1 5 (record { service = plain_service (remotes.On false); start = 0; opening = []; turns = turns })

unfoldable pub quiet_at : ℕ → Turn
quiet_at moment = turn_at moment call.Quiet

unfoldable pub failed_at : ℕ → Turn
failed_at moment = turn_at moment call.Failed

unfoldable pub given_at : ℕ → List ℕ → Turn
given_at moment piece = turn_at moment (call.Received 1 piece)

-- what was received and sent
abbrev pub calls_of : Daemon → List LinkCall
calls_of d = map call_of d.calls

abbrev pub is_send : LinkCall → Bool
is_send (call.Sent node network bytes out) = true
is_send _ = false

-- ---- a question of a status client

unfoldable pub question : Packet
question = record { network = 1; from = 0; to = 1; inc = 0; level = 1; domain = 0; body = body.Query 7 Hats }

unfoldable pub answer : Packet
answer = record { network = 1; from = 1; to = 0; inc = 5; level = 1; domain = 0; body = body.Reply 7 (codes "hats 1 1.5.1 members=1 neighbour=1\n") }

unfoldable pub piece_of_question : List ℕ
piece_of_question = slice_index_or (pieces_of (message_by 0 0 1 (bytes_of question))) 0 []

unfoldable pub piece_of_answer : List ℕ
piece_of_answer = slice_index_or (pieces_of (message_by 1 5 1 (bytes_of answer))) 0 []

-- ---- a message of node 2 in three pieces, which is no packet

unfoldable pub long_piece : ℕ → List ℕ
long_piece index = slice_index_or (pieces_of (message_by 2 3 9 (replicate 2353 65))) index []

-- of each sender: its message's number, and whether it is whole
abbrev pub progress : Kept → ℕ × Bool
progress k = (k.number, elim k.parts [ None ↦ true | Some parts ↦ false ])

-- ---- a client with key 7 on another machine

-- its Up with this call, as the message of this number, and a Down with this answer and no event, as that of the daemon
unfoldable pub up_piece : ℕ → ℕ → List ℕ → List ℕ
up_piece message number line = slice_index_or (pieces_of (message_by 0 0 message (up_text (record { key = 7; number = number; ack = 0; line = line })))) 0 []

unfoldable pub down_piece : ℕ → ℕ → Answer → List (List ℕ) → List ℕ
down_piece message done answer events =
    slice_index_or (pieces_of (message_by 1 5 message (down_text (record { key = 7; incarnation = 5; done = done; answer = answer; first = 1; events = events })))) 0 []

-- opens each word of this file, for a computation
unfoldable pub samples_opens : Unit {0}
unfolding settings_for silent daemon_after server_after quiet_at failed_at given_at question answer piece_of_question piece_of_answer long_piece up_piece down_piece
samples_opens = tt
