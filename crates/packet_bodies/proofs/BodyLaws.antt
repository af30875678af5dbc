-- The formats of bodies.
use Rattle.std.proofs.Common.{◌≡◌, ℕ, ◌<◌, Bool, true, false, cond, List, [], ◌∷◌, ◌++◌, Option, Some, None, refl, sym, ap, subst, ◌∙◌, append-nil, arith, eqb-true}
use Rattle.std.specs.Prelude.{IsTrue, ◌==◌, if◌then◌else◌}
use Rattle.std.specs.Int.{w8, w32}
use Rattle.packet_bodies.specs.declared.body.What.{What}
use Rattle.packet_bodies.specs.declared.body.What.TheVariants.{Hats, Hagsns, Hagsgr, Hagsvote}
use Rattle.rsct_packet.specs.Lists.{is_empty}
use Rattle.rsct_packet.specs.Reading.{number_at}
use Rattle.rsct_packet.specs.Format.{IsBytes, IsFormat}
use Rattle.rsct_packet.specs.Fields.{u8_text}
use Rattle.packet_bodies.specs.Group.{ReplyIn, IsReply, reply_at, reply_text, IsGroup, group_of_parts, group_at, group_text}
use Rattle.packet_bodies.specs.Body.{whole_at, IsWhole, IsOnlyWhole, ring_mask_at, ring_mask_text, ring_mask_of_parts, IsRingMask, death_at, death_text, death_of_parts, IsDeath, report_row_at, report_row_text, report_row_of_parts, IsReportRow, report_at, report_text, are_report_rows, IsReport, prepare_at, prepare_text, prepare_of_parts, IsPrepare, refuse_at, refuse_text, refuse_of_parts, IsRefuse, leader_at, leader_text, leader_of_parts, IsLeader, ack_at, ack_text, ack_of_parts, IsAck, gone_at, gone_text, gone_of_parts, IsGone, what_code, what_of, what_at, query_at, query_text, query_of_parts, IsQuery}
use Rattle.rsct_packet.proofs.FormatLaws.{bind_some, then_some, both_format, made_format, decoded_format, guarded_format, fits_format, counted_format, wide8, u8_format, u32_format}
use Rattle.rsct_packet.proofs.FieldLaws.{node_format, node_or_none_format, mask_format, ring_format, view_format, name_format, provider_format}

nothing_left : (bytes : List ℕ) → IsTrue (is_empty bytes) → bytes ≡ []
nothing_left [] h = refl
nothing_left (x ∷ xs) h = absurd cc

whole_by : {A : Type 0} {f : List ℕ → Option (A × List ℕ)} {text : A → List ℕ} {fits : A → Type 0} → IsFormat f text fits → (bytes : List ℕ) (result : Option A) (r : Option A) → IsBytes bytes → whole_at f bytes ≡ r → result ≡ r → IsWhole text fits result bytes
whole_by {text = text} {fits = fits} format bytes result None h is e = subst (λ (o : Option _). IsWhole text fits o bytes) (sym e) tt
whole_by {A = A} {f = f} {text = text} {fits = fits} format bytes result (Some x) h is e =
    let a = bind_some (f bytes) (λ a. if is_empty a.1 then Some a.0 else None) x is in
    let b = then_some (is_empty a.0.1) a.0.0 x a.2 in
    let p = format.found bytes a.0 h a.1 in
    let end : a.0.1 ≡ [] = nothing_left a.0.1 b.0 in
    let parts : bytes ≡ text a.0.0 = p.0.parts ∙ (ap (λ (t : List ℕ). text a.0.0 ++ t) end ∙ append-nil (text a.0.0)) in
    subst (λ (o : Option A). IsWhole text fits o bytes) (sym e)
    (subst (λ (y : A). fits y × (bytes ≡ text y)) b.1 (p.1, parts))

pub whole_found : {A : Type 0} {f : List ℕ → Option (A × List ℕ)} {text : A → List ℕ} {fits : A → Type 0} → IsFormat f text fits → (bytes : List ℕ) (result : Option A) → IsBytes bytes → result ≡ whole_at f bytes → IsWhole text fits result bytes
whole_found {f = f} format bytes result h e = whole_by format bytes result (whole_at f bytes) h refl e

pub whole_only : {A : Type 0} {f : List ℕ → Option (A × List ℕ)} {text : A → List ℕ} {fits : A → Type 0} → IsFormat f text fits → (bytes : List ℕ) (result : Option A) → result ≡ whole_at f bytes → IsOnlyWhole text fits result bytes
whole_only {f = f} {text = text} format bytes result e = record {
  only = λ x h is.
      let all : bytes ≡ text x ++ [] = is ∙ sym (append-nil (text x)) in
      e ∙ (ap (whole_at f) all ∙ rw (format.again x [] h) refl);
}

pub ring_mask_format : IsFormat ring_mask_at ring_mask_text IsRingMask
unfolding ring_mask_at ring_mask_text
ring_mask_format = fits_format IsRingMask (λ b h. record { ring = h.0; mask = h.1 }) (λ b h. (h.ring, h.mask))
    (made_format ring_mask_of_parts (λ b. (b.ring, b.mask)) (λ a. refl) (λ b. refl) (both_format ring_format mask_format))

pub death_format : IsFormat death_at death_text IsDeath
unfolding death_at death_text
death_format = fits_format IsDeath (λ b h. record { ring = h.0; node = h.1 }) (λ b h. (h.ring, h.node))
    (made_format death_of_parts (λ b. (b.ring, b.node)) (λ a. refl) (λ b. refl) (both_format ring_format node_format))

pub report_row_format : IsFormat report_row_at report_row_text IsReportRow
unfolding report_row_at report_row_text
report_row_format = fits_format IsReportRow (λ b h. record { node = h.0; inc = h.1.0; seq = h.1.1.0; mask = h.1.1.1 }) (λ b h. (h.node, (h.inc, (h.seq, h.mask))))
    (made_format report_row_of_parts (λ b. (b.node, (b.inc, (b.seq, b.mask)))) (λ a. refl) (λ b. refl) (both_format node_format (both_format u32_format (both_format u32_format mask_format))))

pub report_format : IsFormat report_at report_text IsReport
unfolding report_at report_text
report_format = fits_format IsReport (λ b h. let lt = h.0.0 in record { ascending = h.1; few = omega arith; each = h.0.1 }) (λ b h. let few = h.few in ((omega arith, h.each), h.ascending))
    (guarded_format are_report_rows (counted_format w8 256 wide8 report_row_format))

pub prepare_format : IsFormat prepare_at prepare_text IsPrepare
unfolding prepare_at prepare_text
prepare_format = fits_format IsPrepare (λ b h. record { view = h.0; mask = h.1 }) (λ b h. (h.view, h.mask))
    (made_format prepare_of_parts (λ b. (b.view, b.mask)) (λ a. refl) (λ b. refl) (both_format view_format mask_format))

pub refuse_format : IsFormat refuse_at refuse_text IsRefuse
unfolding refuse_at refuse_text
refuse_format = fits_format IsRefuse (λ b h. record { view = h.0; number = h.1 }) (λ b h. (h.view, h.number))
    (made_format refuse_of_parts (λ b. (b.view, b.number)) (λ a. refl) (λ b. refl) (both_format view_format u32_format))

pub group_format : IsFormat group_at group_text IsGroup
unfolding group_at group_text
group_format = fits_format IsGroup (λ b h. record { view = h.0; name = h.1 }) (λ b h. (h.view, h.name))
    (made_format group_of_parts (λ b. (b.view, b.name)) (λ a. refl) (λ b. refl) (both_format view_format name_format))

pub leader_format : IsFormat leader_at leader_text IsLeader
unfolding leader_at leader_text
leader_format = fits_format IsLeader (λ b h. record { group = h.0; leader = h.1 }) (λ b h. (h.group, h.leader))
    (made_format leader_of_parts (λ b. (b.group, b.leader)) (λ a. refl) (λ b. refl) (both_format group_format node_or_none_format))

pub ack_format : IsFormat ack_at ack_text IsAck
unfolding ack_at ack_text
ack_format = fits_format IsAck (λ b h. record { group = h.0; len = h.1 }) (λ b h. (h.group, h.len))
    (made_format ack_of_parts (λ b. (b.group, b.len)) (λ a. refl) (λ b. refl) (both_format group_format u32_format))

pub gone_format : IsFormat gone_at gone_text IsGone
unfolding gone_at gone_text
gone_format = fits_format IsGone (λ b h. record { group = h.0; provider = h.1 }) (λ b h. (h.group, h.provider))
    (made_format gone_of_parts (λ b. (b.group, b.provider)) (λ a. refl) (λ b. refl) (both_format group_format provider_format))

what_back : (n : ℕ) (w : What) → what_of n ≡ Some w → what_code w ≡ n
what_back n w e = by (n == 1) (n == 2) (n == 3) (n == 4) refl refl refl refl e
  where
    by : (a b c d : Bool) → n == 1 ≡ a → n == 2 ≡ b → n == 3 ≡ c → n == 4 ≡ d → cond a (Some Hats) (cond b (Some Hagsns) (cond c (Some Hagsgr) (cond d (Some Hagsvote) None))) ≡ Some w → what_code w ≡ n
    by true b c d p q r s h = let is : Hats ≡ w = cc in subst (λ (v : What). what_code v ≡ n) is (sym (eqb-true n 1 p))
    by false true c d p q r s h = let is : Hagsns ≡ w = cc in subst (λ (v : What). what_code v ≡ n) is (sym (eqb-true n 2 q))
    by false false true d p q r s h = let is : Hagsgr ≡ w = cc in subst (λ (v : What). what_code v ≡ n) is (sym (eqb-true n 3 r))
    by false false false true p q r s h = let is : Hagsvote ≡ w = cc in subst (λ (v : What). what_code v ≡ n) is (sym (eqb-true n 4 s))
    by false false false false p q r s h = absurd cc

what_forth : (w : What) → what_of (what_code w) ≡ Some w
what_forth Hats = refl
what_forth Hagsns = refl
what_forth Hagsgr = refl
what_forth Hagsvote = refl

what_small : (w : What) → what_code w < 256
what_small Hats = omega arith
what_small Hagsns = omega arith
what_small Hagsgr = omega arith
what_small Hagsvote = omega arith

what_format : IsFormat what_at (λ w. u8_text (what_code w)) (λ w. Unit {0})
unfolding what_at
what_format = fits_format (λ w. Unit {0}) (λ w h. tt) (λ w h. what_small w) (decoded_format what_of what_code what_back (λ w h. what_forth w) u8_format)

pub query_format : IsFormat query_at query_text IsQuery
unfolding query_at query_text
query_format = fits_format IsQuery (λ b h. h.0) (λ b h. (h, tt))
    (made_format query_of_parts (λ b. (b.question, b.what)) (λ a. refl) (λ b. refl) (both_format u32_format what_format))

reply_by : (bytes : List ℕ) (result r : Option ReplyIn) → IsBytes bytes → reply_at bytes ≡ r → result ≡ r → IsWhole reply_text IsReply result bytes
unfolding reply_at reply_text
reply_by bytes result None h is e = subst (λ (o : Option ReplyIn). IsWhole reply_text IsReply o bytes) (sym e) tt
reply_by bytes result (Some x) h is e =
    let q = bind_some (number_at w32 bytes) (λ q. Some (record { question = q.0; text = q.1 })) x is in
    let p = u32_format.found bytes q.0 h q.1 in
    let same : ◌≡◌ {A = ReplyIn} (record { question = q.0.0; text = q.0.1 }) x = let t = q.2 in cc in
    subst (λ (o : Option ReplyIn). IsWhole reply_text IsReply o bytes) (sym e)
    (subst (λ (y : ReplyIn). IsReply y × (bytes ≡ reply_text y)) same (p.1, p.0.parts))

pub reply_found : (bytes : List ℕ) (result : Option ReplyIn) → IsBytes bytes → result ≡ reply_at bytes → IsWhole reply_text IsReply result bytes
reply_found bytes result h e = reply_by bytes result (reply_at bytes) h refl e

pub reply_only : (bytes : List ℕ) (result : Option ReplyIn) → result ≡ reply_at bytes → IsOnlyWhole reply_text IsReply result bytes
unfolding reply_at reply_text
reply_only bytes result e = record { only = λ x h is. e ∙ (ap reply_at is ∙ rw (u32_format.again x.question x.text h) refl) }

-- what a reader of a whole body takes
pub ruleset body_reads = (whole_found, whole_only)
