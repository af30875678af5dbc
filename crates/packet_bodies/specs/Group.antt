-- A group in a view, and a reply: what handed out parts of a datagram are seen as.
use Rattle.std.specs.Prelude.{ℕ, List, ◌++◌, Option, Some}
use Rattle.std.specs.Int.{w32}
use Rattle.rsct_packet.specs.declared.ids.ViewId.{ViewId}
use Rattle.rsct_packet.specs.Text.{IsName}
use Rattle.rsct_packet.specs.Reading.{◌>>=◌, number_at, both_at, made_at}
use Rattle.rsct_packet.specs.Fields.{IsU32, IsView, view_at, view_text, name_at, name_text, u32_text}

-- a group in a view, which the packets of a group begin with

pub record GroupIn : Type 0 where
  pub view : ViewId
  pub name : List ℕ

pub record IsGroup (g : GroupIn) : Type 0 where
  pub view : IsView g.view
  pub name : IsName g.name

abbrev pub group_of_parts : ViewId × List ℕ → GroupIn
group_of_parts p = record { view = p.0; name = p.1 }

unfoldable pub group_text : GroupIn → List ℕ
group_text g = view_text g.view ++ name_text g.name

unfoldable pub group_at : List ℕ → Option (GroupIn × List ℕ)
group_at bytes = made_at group_of_parts (both_at view_at name_at) bytes

-- the answer to a question, which is text up to the end

pub record ReplyIn : Type 0 where
  pub question : ℕ
  pub text : List ℕ

abbrev pub IsReply : ReplyIn → Type 0
IsReply r = IsU32 r.question

unfoldable pub reply_text : ReplyIn → List ℕ
reply_text r = u32_text r.question ++ r.text

unfoldable pub reply_at : List ℕ → Option ReplyIn
reply_at bytes = do
  q ← number_at w32 bytes
  Some (record { question = q.0; text = q.1 })
