-- The format of envelopes.
use Rattle.std.proofs.Common.{◌≡◌, ℕ, ◌<◌, ◌≤◌, Bool, true, false, cond, List, [], ◌++◌, Option, Some, None, refl, sym, ap, subst, ◌∙◌, arith, eqb-true}
use Rattle.std.specs.Prelude.{IsTrue, ◌&&◌, ◌==◌, nat_le, if◌then◌else◌, IfSome}
use Rattle.std.proofs.lemmas.Bool.{leb-true, le-leb}
use Rattle.rsct_packet.specs.Format.{IsBytes, IsFormat}
use Rattle.rsct_packet.proofs.FormatLaws.{bind_some, then_some, both_format, decoded_format, guarded_format, fits_format, u8_format, u16_format}
use Rattle.rsct_packet.proofs.FieldLaws.{and_true, node_format}
use Rattle.route_state.specs.declared.front.Front.{Front}
use Rattle.route_state.specs.Envelope.{EnvelopeView, max_hops, is_carried, mark, FrontParts, front_parts, front_of_parts, front_at, front_text, IsFront, IsEnvelope, envelope_text, envelope_of}

front_back : (p : FrontParts) (f : Front) → front_of_parts p ≡ Some f → front_parts f ≡ p
front_back p f e =
    let q = then_some ((p.0 == mark) && (p.1.1.0 == 0)) (record { hops = p.1.0; origin = p.1.1.1.0; target = p.1.1.1.1 }) f e in
    let two = and_true (p.0 == mark) (p.1.1.0 == 0) q.0 in
    let is : p.0 ≡ mark = eqb-true p.0 mark two.0 in
    let zero : p.1.1.0 ≡ 0 = eqb-true p.1.1.0 0 two.1 in
    ap front_parts (sym q.1) ∙
    ap (λ (x : ℕ × ℕ). let t : FrontParts = (x.0, (p.1.0, (x.1, p.1.1.1))) in t) (let same : ◌≡◌ {A = ℕ × ℕ} (mark, 0) (p.0, p.1.1.0) = cc in same)

pub front_format : IsFormat front_at front_text IsFront
unfolding front_at front_text
front_format = fits_format IsFront (λ f h. record { hops = leb-true f.hops max_hops h.1; origin = h.0.1.1.1.0; target = h.0.1.1.1.1 })
    (λ f h. let le = h.hops in ((omega arith, (omega arith, (omega arith, (h.origin, h.target)))), le-leb f.hops max_hops le))
    (guarded_format (λ (f : Front). nat_le f.hops max_hops)
    (decoded_format front_of_parts front_parts front_back (λ f h. refl) (both_format u16_format (both_format u8_format (both_format u8_format (both_format node_format node_format))))))

pub envelope_found : (bytes : List ℕ) (e : EnvelopeView) → IsBytes bytes → envelope_of bytes ≡ Some e → IsEnvelope e × (bytes ≡ envelope_text e)
unfolding envelope_of envelope_text
envelope_found bytes e fits h =
    let f = bind_some (front_at bytes) (λ f. if is_carried f.0.origin f.0.target f.1 then Some (record { front = f.0; inner = f.1 }) else None) e h in
    let x : Front × List ℕ = f.0 in
    let v : EnvelopeView = record { front = x.0; inner = x.1 } in
    let t = then_some (is_carried x.0.origin x.0.target x.1) v e f.2 in
    let p = front_format.found bytes x fits f.1 in
    subst (λ (q : EnvelopeView). IsEnvelope q × (bytes ≡ front_text q.front ++ q.inner)) t.1 (record { front = p.1; carried = t.0 }, p.0.parts)

pub envelope_again : (e : EnvelopeView) → IsEnvelope e → envelope_of (envelope_text e) ≡ Some e
unfolding envelope_of envelope_text
envelope_again e h = rw (front_format.again e.front e.inner h.front, h.carried) refl

read_by : (bytes : List ℕ) (r read : Option EnvelopeView) → envelope_of bytes ≡ read → IsBytes bytes → r ≡ read → IfSome r (λ e. IsEnvelope e × (bytes ≡ envelope_text e))
read_by bytes None read is h e = tt
read_by bytes (Some x) read is h e = envelope_found bytes x h (is ∙ sym e)

pub read_found : (bytes : List ℕ) (r : Option EnvelopeView) → IsBytes bytes → r ≡ envelope_of bytes → IfSome r (λ e. IsEnvelope e × (bytes ≡ envelope_text e))
read_found bytes r h e = read_by bytes r (envelope_of bytes) refl h e

pub read_only : (bytes : List ℕ) (r : Option EnvelopeView) → r ≡ envelope_of bytes → (e : EnvelopeView) → IsEnvelope e → bytes ≡ envelope_text e → r ≡ Some e
read_only bytes r is e h same = is ∙ (ap envelope_of same ∙ envelope_again e h)
