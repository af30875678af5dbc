-- The formats of the two messages.
use Rattle.std.proofs.Common.{◌≡◌, ℕ, ◌<◌, Bool, true, false, cond, length, Some, None, refl, sym, ap, subst, ◌∙◌, arith, eqb-true}
use Rattle.std.specs.Prelude.{◌==◌, nat_le}
use Rattle.std.proofs.lemmas.Bool.{leb-true, le-leb}
use Rattle.std.specs.Int.{w8}
use Rattle.rsct_packet.specs.Format.{IsFormat}
use Rattle.rsct_packet.specs.Fields.{u8_text}
use Rattle.rsct_packet.proofs.FormatLaws.{then_some, both_format, decoded_format, guarded_format, fits_format, counted_format, wide8, u8_format, u32_format}
use Rattle.rsct_packet.proofs.FieldLaws.{bytes_format}
use Rattle.packet_bodies.specs.Body.{whole_at}
use Rattle.packet_bodies.proofs.BodyLaws.{whole_only}
use Rattle.remote_session.specs.declared.messages.Answer.{Answer}
use Rattle.remote_session.specs.declared.messages.Answer.TheVariants.{NoAnswer, Taken, Refused, Full}
use Rattle.remote_session.specs.Messages.{max_line, max_events, UpIn, IsUp, up_mark, UpParts, up_parts, up_of_parts, up_text, up_at, up_of, DownIn, IsDown, answer_code, answer_of, answer_at, down_mark, DownParts, down_parts, down_of_parts, down_text, down_at, down_of}

up_back : (p : UpParts) (u : UpIn) → up_of_parts p ≡ Some u → up_parts u ≡ p
up_back p u e =
    let q = then_some (p.0 == up_mark) (record { key = p.1.0; number = p.1.1.0; ack = p.1.1.1.0; line = p.1.1.1.1 }) u e in
    ap up_parts (sym q.1) ∙ ap (λ (m : ℕ). let r : UpParts = (m, p.1) in r) (sym (eqb-true p.0 up_mark q.0))

pub up_format : IsFormat up_at up_text IsUp
unfolding up_at up_text
up_format = fits_format IsUp (λ u h. record { key = h.0.1.0; number = h.0.1.1.0; ack = h.0.1.1.1.0; line = leb-true (length u.line) max_line h.1 })
    (λ u h. let le = h.line in ((omega arith, (h.key, (h.number, (h.ack, omega arith)))), le-leb (length u.line) max_line le))
    (guarded_format (λ (u : UpIn). nat_le (length u.line) max_line)
    (decoded_format up_of_parts up_parts up_back (λ u h. refl) (both_format u32_format (both_format u32_format (both_format u32_format (both_format u32_format bytes_format))))))

answer_back : (n : ℕ) (a : Answer) → answer_of n ≡ Some a → answer_code a ≡ n
answer_back n a e = by (n == 0) (n == 1) (n == 2) (n == 3) refl refl refl refl e
  where
    by : (p q r s : Bool) → n == 0 ≡ p → n == 1 ≡ q → n == 2 ≡ r → n == 3 ≡ s → cond p (Some NoAnswer) (cond q (Some Taken) (cond r (Some Refused) (cond s (Some Full) None))) ≡ Some a → answer_code a ≡ n
    by true q r s i j k l h = let is : NoAnswer ≡ a = cc in subst (λ (v : Answer). answer_code v ≡ n) is (sym (eqb-true n 0 i))
    by false true r s i j k l h = let is : Taken ≡ a = cc in subst (λ (v : Answer). answer_code v ≡ n) is (sym (eqb-true n 1 j))
    by false false true s i j k l h = let is : Refused ≡ a = cc in subst (λ (v : Answer). answer_code v ≡ n) is (sym (eqb-true n 2 k))
    by false false false true i j k l h = let is : Full ≡ a = cc in subst (λ (v : Answer). answer_code v ≡ n) is (sym (eqb-true n 3 l))
    by false false false false i j k l h = absurd cc

answer_forth : (a : Answer) → answer_of (answer_code a) ≡ Some a
answer_forth NoAnswer = refl
answer_forth Taken = refl
answer_forth Refused = refl
answer_forth Full = refl

answer_small : (a : Answer) → answer_code a < 256
answer_small NoAnswer = omega arith
answer_small Taken = omega arith
answer_small Refused = omega arith
answer_small Full = omega arith

answer_format : IsFormat answer_at (λ a. u8_text (answer_code a)) (λ a. Unit {0})
unfolding answer_at
answer_format = fits_format (λ a. Unit {0}) (λ a h. tt) (λ a h. answer_small a) (decoded_format answer_of answer_code answer_back (λ a h. answer_forth a) u8_format)

down_back : (p : DownParts) (d : DownIn) → down_of_parts p ≡ Some d → down_parts d ≡ p
down_back p d e =
    let q = then_some (p.0 == down_mark) (record { key = p.1.0; incarnation = p.1.1.0; done = p.1.1.1.0; answer = p.1.1.1.1.0; first = p.1.1.1.1.1.0; events = p.1.1.1.1.1.1 }) d e in
    ap down_parts (sym q.1) ∙ ap (λ (m : ℕ). let r : DownParts = (m, p.1) in r) (sym (eqb-true p.0 down_mark q.0))

pub down_format : IsFormat down_at down_text IsDown
unfolding down_at down_text
down_format = fits_format IsDown
    (λ d h. record { key = h.0.1.0; incarnation = h.0.1.1.0; done = h.0.1.1.1.0; first = h.0.1.1.1.1.1.0; few = leb-true (length d.events) max_events h.1; each = h.0.1.1.1.1.1.1.1 })
    (λ d h. let le = h.few in ((omega arith, (h.key, (h.incarnation, (h.done, (tt, (h.first, (omega arith, h.each))))))), le-leb (length d.events) max_events le))
    (guarded_format (λ (d : DownIn). nat_le (length d.events) max_events)
    (decoded_format down_of_parts down_parts down_back (λ d h. refl)
    (both_format u32_format (both_format u32_format (both_format u32_format (both_format u32_format (both_format answer_format (both_format u32_format (counted_format w8 256 wide8 bytes_format)))))))))

-- what was written is read

pub up_again : (u : UpIn) → IsUp u → up_of (up_text u) ≡ Some u
unfolding up_of
up_again u h = (whole_only up_format (up_text u) (whole_at up_at (up_text u)) refl).only u h refl

pub down_again : (d : DownIn) → IsDown d → down_of (down_text d) ≡ Some d
unfolding down_of
down_again d h = (whole_only down_format (down_text d) (whole_at down_at (down_text d)) refl).only d h refl
