-- The formats of the two messages.
use Rattle.std.proofs.Common.{◌≡◌, ℕ, ◌<◌, Bool, true, false, cond, List, ◌++◌, Option, Some, None, refl, sym, ap, subst, ◌∙◌, arith, eqb-true, eq-eqb}
use Rattle.std.specs.Prelude.{◌==◌, ◌^◌, ◌&&◌, if◌then◌else◌}
use Rattle.std.specs.Int.{w32}
use Rattle.rsct_packet.specs.Reading.{number_at, decoded_at}
use Rattle.rsct_packet.specs.Format.{IsFormat}
use Rattle.rsct_packet.specs.Fields.{u32_text}
use Rattle.rsct_packet.proofs.FormatLaws.{both_format, decoded_format, fits_format, made_format, u32_format}
use Rattle.packet_bodies.specs.Body.{whole_at}
use Rattle.packet_bodies.proofs.BodyLaws.{whole_only}
use Rattle.self_questions.specs.declared.messages.SelfWhat.{SelfWhat}
use Rattle.self_questions.specs.declared.messages.SelfWhat.TheVariants.{Hagscl, Hagsd}
use Rattle.self_questions.specs.declared.messages.SelfQuestion.{SelfQuestion}
use Rattle.self_questions.specs.Messages.{asked_mark, asked_of, told_mark, told_of, IsQuestion, question_of_parts, question_text, question_at, question_of, reply_head, reply_text, reply_at, same_what, text_for, text_in}

-- ---- what is asked

asked_back : (n : ℕ) (w : SelfWhat) → asked_of n ≡ Some w → asked_mark w ≡ n
asked_back n w e = by (n == 0x5249_0101) (n == 0x5249_0102) refl refl e
  where
    by : (p q : Bool) → n == 0x5249_0101 ≡ p → n == 0x5249_0102 ≡ q → cond p (Some Hagscl) (cond q (Some Hagsd) None) ≡ Some w → asked_mark w ≡ n
    by true q i j h = let is : Hagscl ≡ w = cc in subst (λ (v : SelfWhat). asked_mark v ≡ n) is (sym (eqb-true n 0x5249_0101 i))
    by false true i j h = let is : Hagsd ≡ w = cc in subst (λ (v : SelfWhat). asked_mark v ≡ n) is (sym (eqb-true n 0x5249_0102 j))
    by false false i j h = absurd cc

asked_forth : (w : SelfWhat) → asked_of (asked_mark w) ≡ Some w
asked_forth Hagscl = refl
asked_forth Hagsd = refl

asked_small : (w : SelfWhat) → asked_mark w < 2 ^ 32
asked_small Hagscl = omega arith
asked_small Hagsd = omega arith

told_back : (n : ℕ) (w : SelfWhat) → told_of n ≡ Some w → told_mark w ≡ n
told_back n w e = by (n == 0x5249_0201) (n == 0x5249_0202) refl refl e
  where
    by : (p q : Bool) → n == 0x5249_0201 ≡ p → n == 0x5249_0202 ≡ q → cond p (Some Hagscl) (cond q (Some Hagsd) None) ≡ Some w → told_mark w ≡ n
    by true q i j h = let is : Hagscl ≡ w = cc in subst (λ (v : SelfWhat). told_mark v ≡ n) is (sym (eqb-true n 0x5249_0201 i))
    by false true i j h = let is : Hagsd ≡ w = cc in subst (λ (v : SelfWhat). told_mark v ≡ n) is (sym (eqb-true n 0x5249_0202 j))
    by false false i j h = absurd cc

told_forth : (w : SelfWhat) → told_of (told_mark w) ≡ Some w
told_forth Hagscl = refl
told_forth Hagsd = refl

told_small : (w : SelfWhat) → told_mark w < 2 ^ 32
told_small Hagscl = omega arith
told_small Hagsd = omega arith

-- ---- the messages

pub question_format : IsFormat question_at question_text IsQuestion
unfolding question_at question_text
question_format = fits_format IsQuestion (λ q h. record { question = h.1 }) (λ q h. (asked_small q.what, h.question))
    (made_format question_of_parts (λ q. (q.what, q.question)) (λ p. refl) (λ q. refl) (both_format (decoded_format asked_of asked_mark asked_back (λ w h. asked_forth w) u32_format) u32_format))

pub reply_format : IsFormat reply_at reply_head IsQuestion
unfolding reply_at reply_head
reply_format = fits_format IsQuestion (λ q h. record { question = h.1 }) (λ q h. (told_small q.what, h.question))
    (made_format question_of_parts (λ q. (q.what, q.question)) (λ p. refl) (λ q. refl) (both_format (decoded_format told_of told_mark told_back (λ w h. told_forth w) u32_format) u32_format))

-- ---- what was written is read

pub question_again : (q : SelfQuestion) → IsQuestion q → question_of (question_text q) ≡ Some q
unfolding question_of
question_again q h = (whole_only question_format (question_text q) (whole_at question_at (question_text q)) refl).only q h refl

same_self : (w : SelfWhat) → same_what w w ≡ true
same_self Hagscl = refl
same_self Hagsd = refl

own_text : (b c : Bool) (text : List ℕ) → b ≡ true → c ≡ true → (if b && c then Some text else None) ≡ Some text
own_text b c text p q = rw p (rw q refl)

pub text_again : (q : SelfQuestion) (text : List ℕ) → IsQuestion q → text_in q (reply_text q text) ≡ Some text
unfolding text_in reply_text
text_again q text h = ap (text_for q) (reply_format.again q text h) ∙ own_text (same_what q.what q.what) (q.question == q.question) text (same_self q.what) (eq-eqb q.question q.question refl)
