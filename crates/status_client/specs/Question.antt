-- What a status client asks, and what answers it.
use Rattle.std.specs.Prelude.{ℕ, ◌%◌, ◌^◌, ◌==◌, true, List, ◌++◌, Option, Some, None, if◌then◌else◌}
use Rattle.hags_io.specs.declared.link.LinkCall.{LinkCall}
use Rattle.hags_io.specs.declared.link.LinkCall.TheVariants as call
use Rattle.piece_link.specs.declared.piece.PieceHead.{PieceHead}
use Rattle.piece_link.specs.Pieces.{head_text}
use Rattle.packet_bodies.specs.declared.body.What.{What}
use Rattle.node_state.specs.declared.config.Config.{Config}
use Rattle.node_state.specs.declared.packet.Body.{Body}
use Rattle.node_state.specs.declared.packet.Body.TheVariants as body
use Rattle.node_state.specs.declared.packet.Packet.{Packet}
use Rattle.node_state.specs.Bytes.{packet_of, bytes_of}
use Rattle.node_state.specs.Settings.{shared_network}
use Rattle.self_questions.specs.declared.messages.SelfWhat.{SelfWhat}
use Rattle.self_questions.specs.declared.messages.SelfQuestion.{SelfQuestion}
use Rattle.self_questions.specs.Messages.{question_text, text_in}
use Rattle.status_client.specs.declared.question.Subject.{Subject}
use Rattle.status_client.specs.declared.question.Subject.TheVariants as subject
use Rattle.status_client.specs.declared.question.Asking.{Asking}
use Rattle.status_client.specs.declared.question.Question.{Question}

-- ---- the question

-- its number is the low 32 bits of the moment at which it is asked
abbrev pub number_at : ℕ → ℕ
number_at moment = moment % 2 ^ 32

abbrev pub question_at : Asking → ℕ → Question
question_at asking moment = record { subject = asking.subject; number = number_at moment }

-- a node is asked by a QUERY, on the least network that it has
unfoldable pub query_packet : Config → ℕ → What → ℕ → Packet
query_packet c node what number = record {
  network = shared_network c node node;
  from = 0;
  to = node;
  inc = 0;
  level = 1;
  domain = 0;
  body = body.Query number what;
}

-- its daemon by a message of its own, over the same network
abbrev pub self_question : SelfWhat → ℕ → SelfQuestion
self_question what number = record { what = what; question = number }

abbrev pub message_about : Config → ℕ → Subject → ℕ → List ℕ
message_about c node (subject.Node what) number = bytes_of (query_packet c node what number)
message_about c node (subject.Daemon what) number = question_text (self_question what number)

-- it goes out in one piece, as message 1 of sender 0
abbrev pub question_head : PieceHead
question_head = record { sender = 0; incarnation = 0; number = 1; index = 0; count = 1 }

unfoldable pub question_piece : Config → Asking → ℕ → List ℕ
question_piece c asking number = head_text question_head ++ message_about c asking.node asking.subject number

-- what is sent: that one piece, to the node
unfoldable pub question_call : Config → Asking → ℕ → LinkCall
question_call c asking number = call.Sent asking.node (shared_network c asking.node asking.node) (question_piece c asking number) true

-- ---- the answer

abbrev pub text_if : Option (List ℕ) → Body → ℕ → Option (List ℕ)
text_if none (body.Reply number text) asked = if number == asked then Some text else none
text_if none _ asked = none

abbrev pub packet_text : ℕ → Option Packet → Option (List ℕ)
packet_text asked None = None
packet_text asked (Some p) = text_if None p.body asked

-- the text of a message that is a REPLY of this number
unfoldable pub node_reply : ℕ → List ℕ → Option (List ℕ)
node_reply number message = packet_text number (packet_of message)

abbrev pub reply_about : Subject → ℕ → List ℕ → Option (List ℕ)
reply_about (subject.Node what) number message = node_reply number message
reply_about (subject.Daemon what) number message = text_in (self_question what number) message

-- the text of a message that is a reply to the question: of a daemon one that says what it is about
unfoldable pub reply_to : Question → List ℕ → Option (List ℕ)
reply_to question message = reply_about question.subject question.number message

-- of a message, where one is whole
abbrev pub answer_of : Question → Option (List ℕ) → Option (List ℕ)
answer_of question None = None
answer_of question (Some message) = reply_to question message
