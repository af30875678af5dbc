-- What a client on another machine says, and what is said to it, is no packet: it begins with another mark. Nor is what a daemon
-- is asked about itself, and what it replies.
use Rattle.std.proofs.Common.{◌≡◌, ◌<◌, ◌^◌, ℕ, List, ◌++◌, append_assoc, Bool, true, false, Option, Some, None, refl, sym, ap, ◌∙◌, arith}
use Rattle.std.specs.Prelude.{◌==◌, ◌&&◌, if◌then◌else◌}
use Rattle.std.specs.Int.{w8, w16, w32}
use Rattle.rsct_packet.specs.Fields.{u8_text, u16_text, u32_text, bytes_text, bytes_at}
use Rattle.rsct_packet.specs.Format.{counted_text}
use Rattle.rsct_packet.specs.Reading.{◌>>=◌, number_at, both_at, decoded_at}
use Rattle.rsct_packet.specs.Packet.{FrontParts, front_of_parts, front_parts_at, front_at, packet_at}
use Rattle.rsct_packet.proofs.FormatLaws.{u16_format, u32_format}
use Rattle.packet_bodies.specs.Body.{whole_of}
use Rattle.node_state.specs.Bytes.{packet_in, packet_of}
use Rattle.remote_session.specs.Messages.{UpIn, UpParts, up_mark, up_of_parts, up_text, up_at, up_of, DownIn, answer_code, down_text}
use Rattle.self_questions.specs.declared.messages.SelfWhat.{SelfWhat}
use Rattle.self_questions.specs.declared.messages.SelfWhat.TheVariants.{Hagscl, Hagsd}
use Rattle.self_questions.specs.declared.messages.SelfQuestion.{SelfQuestion}
use Rattle.self_questions.specs.Messages.{asked_mark, told_mark, question_text, reply_head, reply_text}

none_on : {A B : Type 0} (o : Option A) (f : A → Option B) → o ≡ None → (o >>= f) ≡ None
none_on o f e = ap (λ z. z >>= f) e

both_first : {A B : Type 0} (f : List ℕ → Option (A × List ℕ)) (g : List ℕ → Option (B × List ℕ)) (bytes : List ℕ) (a : A × List ℕ) (x : (A × B) × List ℕ) → f bytes ≡ Some a → both_at f g bytes ≡ Some x → x.0.0 ≡ a.0
both_first {A} {B} f g bytes a x e both =
    by (g a.1) (sym (ap (λ (z : Option (A × List ℕ)). z >>= (λ c. g c.1 >>= (λ b. Some ((c.0, b.0), b.1)))) e) ∙ both)
  where
    by : (o : Option (B × List ℕ)) → (o >>= (λ b. Some ((a.0, b.0), b.1))) ≡ Some x → x.0.0 ≡ a.0
    by None is = absurd (cc)
    by (Some b) is = let same : ((a.0, b.0), b.1) ≡ x = cc in sym (ap (λ (z : (A × B) × List ℕ). z.0.0) same)

if_none : {A : Type 0} (b c : Bool) (x : Option A) → b ≡ false → (if b && c then x else None) ≡ None
if_none true c x e = absurd (cc)
if_none false c x e = refl

-- what was read stands for one of other values
abbrev decoded : {A B : Type 0} → (A → Option B) → A × List ℕ → Option (B × List ℕ)
decoded decode a = do
  b ← decode a.0
  Some (b, a.1)

module _ (bytes rest : List ℕ) (mark : ℕ) (other : mark == 21063 ≡ false) (begins : number_at w16 bytes ≡ Some (mark, rest)) where
  no_parts : (o : Option (FrontParts × List ℕ)) → front_parts_at bytes ≡ o → (o >>= decoded front_of_parts) ≡ None
  no_parts None e = refl
  no_parts (Some x) e =
      let first : x.0.0 ≡ mark = both_first (number_at w16) _ bytes (mark, rest) x begins e in
      none_on (front_of_parts x.0) _ (if_none (x.0.0 == 21063) _ _ (ap (λ m. m == 21063) first ∙ other))

  no_front : front_at bytes ≡ None
  unfolding front_at
  no_front = none_on (decoded_at front_of_parts front_parts_at bytes) _ (no_parts (front_parts_at bytes) refl)

  no_packet : packet_of bytes ≡ None
  unfolding packet_of packet_at
  no_packet = ap packet_in (none_on _ _ (none_on (front_at bytes) _ no_front))

-- the first half of a mark
half : (n m : ℕ) (rest : List ℕ) → n < 2 ^ 16 → number_at w16 (u16_text n ++ (u16_text m ++ rest)) ≡ Some (n, u16_text m ++ rest)
half n m rest fits = u16_format.again n (u16_text m ++ rest) fits

pub up_is_no_packet : (u : UpIn) → packet_of (up_text u) ≡ None
unfolding up_text u16_text u32_text
up_is_no_packet u =
    let rest : List ℕ = u32_text u.key ++ (u32_text u.number ++ (u32_text u.ack ++ bytes_text u.line)) in
    no_packet (up_text u) (u16_text 256 ++ rest) 21075 refl (half 21075 256 rest (omega arith))

pub down_is_no_packet : (d : DownIn) → packet_of (down_text d) ≡ None
unfolding down_text u16_text u32_text
down_is_no_packet d =
    let rest : List ℕ = u32_text d.key ++ (u32_text d.incarnation ++ (u32_text d.done ++ (u8_text (answer_code d.answer) ++ (u32_text d.first ++ counted_text w8 bytes_text d.events)))) in
    no_packet (down_text d) (u16_text 512 ++ rest) 21075 refl (half 21075 512 rest (omega arith))

-- ---- questions about a daemon itself

asked_by : (w : SelfWhat) (rest : List ℕ) → packet_of (u32_text (asked_mark w) ++ rest) ≡ None
unfolding u16_text u32_text
asked_by Hagscl rest = no_packet (u32_text (asked_mark Hagscl) ++ rest) (u16_text 257 ++ rest) 21065 refl (half 21065 257 rest (omega arith))
asked_by Hagsd rest = no_packet (u32_text (asked_mark Hagsd) ++ rest) (u16_text 258 ++ rest) 21065 refl (half 21065 258 rest (omega arith))

pub question_is_no_packet : (q : SelfQuestion) → packet_of (question_text q) ≡ None
unfolding question_text
question_is_no_packet q = asked_by q.what (u32_text q.question)

told_by : (w : SelfWhat) (rest : List ℕ) → packet_of (u32_text (told_mark w) ++ rest) ≡ None
unfolding u16_text u32_text
told_by Hagscl rest = no_packet (u32_text (told_mark Hagscl) ++ rest) (u16_text 513 ++ rest) 21065 refl (half 21065 513 rest (omega arith))
told_by Hagsd rest = no_packet (u32_text (told_mark Hagsd) ++ rest) (u16_text 514 ++ rest) 21065 refl (half 21065 514 rest (omega arith))

pub reply_is_no_packet : (q : SelfQuestion) (text : List ℕ) → packet_of (reply_text q text) ≡ None
unfolding reply_text reply_head
reply_is_no_packet q text =
    ap packet_of (append_assoc (u32_text (told_mark q.what)) (u32_text q.question) text) ∙ told_by q.what (u32_text q.question ++ text)

-- nor is it an Up

if_not : {A : Type 0} (b : Bool) (x : Option A) → b ≡ false → (if b then x else None) ≡ None
if_not true x e = absurd (cc)
if_not false x e = refl

abbrev up_parts_at : List ℕ → Option (UpParts × List ℕ)
up_parts_at bytes = both_at (number_at w32) (both_at (number_at w32) (both_at (number_at w32) (both_at (number_at w32) bytes_at))) bytes

module _ (bytes rest : List ℕ) (mark : ℕ) (other : mark == up_mark ≡ false) (begins : number_at w32 bytes ≡ Some (mark, rest)) where
  no_up_parts : (o : Option (UpParts × List ℕ)) → up_parts_at bytes ≡ o → (o >>= decoded up_of_parts) ≡ None
  no_up_parts None e = refl
  no_up_parts (Some x) e =
      let first : x.0.0 ≡ mark = both_first (number_at w32) _ bytes (mark, rest) x begins e in
      none_on (up_of_parts x.0) _ (if_not (x.0.0 == up_mark) _ (ap (λ m. m == up_mark) first ∙ other))

  no_up : up_of bytes ≡ None
  unfolding up_of up_at
  no_up = ap whole_of (none_on (decoded_at up_of_parts up_parts_at bytes) _ (no_up_parts (up_parts_at bytes) refl))

up_by : (w : SelfWhat) (rest : List ℕ) → up_of (u32_text (asked_mark w) ++ rest) ≡ None
up_by Hagscl rest = no_up (u32_text (asked_mark Hagscl) ++ rest) rest (asked_mark Hagscl) refl (u32_format.again (asked_mark Hagscl) rest (omega arith))
up_by Hagsd rest = no_up (u32_text (asked_mark Hagsd) ++ rest) rest (asked_mark Hagsd) refl (u32_format.again (asked_mark Hagsd) rest (omega arith))

pub question_is_no_up : (q : SelfQuestion) → up_of (question_text q) ≡ None
unfolding question_text
question_is_no_up q = up_by q.what (u32_text q.question)
