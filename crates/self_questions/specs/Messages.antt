-- What is asked of a daemon about itself, and what it replies: two messages that are no packets of a node.
use Rattle.std.specs.Prelude.{ℕ, Bool, true, false, ◌==◌, ◌&&◌, List, ◌++◌, Option, Some, None, if◌then◌else◌}
use Rattle.std.specs.Int.{w32}
use Rattle.rsct_packet.specs.Reading.{number_at, both_at, made_at, decoded_at}
use Rattle.rsct_packet.specs.Fields.{IsU32, u32_text}
use Rattle.packet_bodies.specs.Body.{whole_at}
use Rattle.self_questions.specs.declared.messages.SelfWhat.{SelfWhat}
use Rattle.self_questions.specs.declared.messages.SelfWhat.TheVariants.{Hagscl, Hagsd}
use Rattle.self_questions.specs.declared.messages.SelfQuestion.{SelfQuestion}

-- the bytes 52 49, the 1 of a question, and what is asked
abbrev pub asked_mark : SelfWhat → ℕ
asked_mark Hagscl = 0x5249_0101
asked_mark Hagsd = 0x5249_0102

abbrev pub asked_of : ℕ → Option SelfWhat
asked_of n = if n == 0x5249_0101 then Some Hagscl else if n == 0x5249_0102 then Some Hagsd else None

-- the same with the 2 of a reply
abbrev pub told_mark : SelfWhat → ℕ
told_mark Hagscl = 0x5249_0201
told_mark Hagsd = 0x5249_0202

abbrev pub told_of : ℕ → Option SelfWhat
told_of n = if n == 0x5249_0201 then Some Hagscl else if n == 0x5249_0202 then Some Hagsd else None

pub record IsQuestion (q : SelfQuestion) : Type 0 where
  pub question : IsU32 q.question

abbrev pub question_of_parts : SelfWhat × ℕ → SelfQuestion
question_of_parts p = record { what = p.0; question = p.1 }

-- ---- a question, of eight bytes

unfoldable pub question_text : SelfQuestion → List ℕ
question_text q = u32_text (asked_mark q.what) ++ u32_text q.question

unfoldable pub question_at : List ℕ → Option (SelfQuestion × List ℕ)
question_at bytes = made_at question_of_parts (both_at (decoded_at asked_of (number_at w32)) (number_at w32)) bytes

-- the question that these bytes are
unfoldable pub question_of : List ℕ → Option SelfQuestion
question_of bytes = whole_at question_at bytes

-- ---- a reply: which question it is to, and a text up to the end

-- all of it but the text
unfoldable pub reply_head : SelfQuestion → List ℕ
reply_head q = u32_text (told_mark q.what) ++ u32_text q.question

unfoldable pub reply_text : SelfQuestion → List ℕ → List ℕ
reply_text q text = reply_head q ++ text

-- the question that these bytes are a reply to, and the text
unfoldable pub reply_at : List ℕ → Option (SelfQuestion × List ℕ)
reply_at bytes = made_at question_of_parts (both_at (decoded_at told_of (number_at w32)) (number_at w32)) bytes

abbrev pub same_what : SelfWhat → SelfWhat → Bool
same_what Hagscl Hagscl = true
same_what Hagscl Hagsd = false
same_what Hagsd Hagscl = false
same_what Hagsd Hagsd = true

abbrev pub is_same_question : SelfQuestion → SelfQuestion → Bool
is_same_question p q = same_what p.what q.what && (p.question == q.question)

abbrev pub text_for : SelfQuestion → Option (SelfQuestion × List ℕ) → Option (List ℕ)
text_for q None = None
text_for q (Some x) = if is_same_question x.0 q then Some x.1 else None

-- the text of a reply to this question
unfoldable pub text_in : SelfQuestion → List ℕ → Option (List ℕ)
text_in q bytes = text_for q (reply_at bytes)

-- opens each word of this file, for a computation
unfoldable pub self_messages_opens : Unit {0}
unfolding question_text question_at question_of reply_head reply_text reply_at text_in
self_messages_opens = tt
