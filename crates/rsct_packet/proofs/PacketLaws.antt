-- The format of heads, and what `Packet::read` says.
use Rattle.std.proofs.Common.{◌≡◌, ℕ, ◌<◌, ◌≤◌, Bool, true, false, cond, List, [], ◌++◌, length, Option, Some, None, refl, sym, ap, subst, ◌∙◌, arith, eqb-true, eq-eqb}
use Rattle.std.specs.Prelude.{IsTrue, ◌&&◌, ◌||◌, ◌==◌, nat_le, if◌then◌else◌, IfSome}
use Rattle.std.specs.Int.{w32}
use Rattle.std.proofs.lemmas.Bool.{leb-true, le-leb}
use Rattle.rsct_packet.specs.declared.packet.Front.{Front}
use Rattle.rsct_packet.specs.declared.packet.Packet.{Packet}
use Rattle.std.specs.Option.{option_map}
use Rattle.rsct_packet.specs.Reading.{number_at, guarded_at}
use Rattle.rsct_packet.specs.Fields.{u32_text}
use Rattle.rsct_packet.specs.Format.{IsBytes, IsFormat}
use Rattle.rsct_packet.specs.Packet.{is_kind, is_network, is_sender, is_level, is_group_kind, is_head, is_front, FrontParts, front_parts, front_of_parts, front_at, front_text, IsFront, domain_at, domain_text, DomainFits, head_at, head_text, PacketView, packet_view, IsPacket, packet_text, packet_at}
use Rattle.rsct_packet.proofs.FormatLaws.{bind_some, then_some, both_format, then_format, decoded_format, guarded_format, fits_format, nothing_format, u8_format, u16_format, u32_format}
use Rattle.rsct_packet.proofs.FieldLaws.{and_true}

-- what is decoded spells what it was decoded from
front_back : (a : FrontParts) (f : Front) → front_of_parts a ≡ Some f → front_parts f ≡ a
front_back a f e =
    let g = then_some ((a.0 == 21063) && (a.1.1.1.1.1.1.0 == 0)) (record { head = record { kind = a.1.1.0; network = a.1.1.1.0; from = a.1.1.1.1.0; to = a.1.1.1.1.1.0; inc = a.1.1.1.1.1.1.1.0 }; level = a.1.0; body_len = a.1.1.1.1.1.1.1.1 }) f e in
    let p = and_true (a.0 == 21063) (a.1.1.1.1.1.1.0 == 0) g.0 in
    let mark : a.0 ≡ 21063 = eqb-true a.0 21063 p.0 in
    let zero : a.1.1.1.1.1.1.0 ≡ 0 = eqb-true a.1.1.1.1.1.1.0 0 p.1 in
    subst (λ (h : Front). front_parts h ≡ a) g.1
    (ap (λ (x : ℕ × ℕ). let t : FrontParts = (x.0, (a.1.0, (a.1.1.0, (a.1.1.1.0, (a.1.1.1.1.0, (a.1.1.1.1.1.0, (x.1, (a.1.1.1.1.1.1.1.0, a.1.1.1.1.1.1.1.1)))))))) in t) (let same : ◌≡◌ {A = ℕ × ℕ} (21063, 0) (a.0, a.1.1.1.1.1.1.0) = cc in same))

sender_small : (from inc : ℕ) (b : Bool) → b ≡ (from == 0) → IsTrue (cond b (inc == 0) (nat_le from 32 && nat_le 1 inc)) → from ≤ 32
sender_small from inc true is h = let e : from ≡ 0 = eqb-true from 0 (sym is) in omega arith
sender_small from inc false is h = leb-true from 32 (and_true (nat_le from 32) (nat_le 1 inc) h).0

level_small : (level kind : ℕ) (b : Bool) → b ≡ (level == 1) → IsTrue (b || ((level == 2) && is_group_kind kind)) → level ≤ 2
level_small level kind true is h = let e : level ≡ 1 = eqb-true level 1 (sym is) in omega arith
level_small level kind false is h = let e : level ≡ 2 = eqb-true level 2 (and_true (level == 2) (is_group_kind kind) h).0 in omega arith

pub record SmallFront (f : Front) : Type 0 where
  pub level : f.level ≤ 2
  pub kind : f.head.kind ≤ 23
  pub network : f.head.network ≤ 4
  pub from : f.head.from ≤ 32
  pub to : f.head.to ≤ 32

pub small_front : (f : Front) → IsTrue (is_front f) → SmallFront f
unfolding is_front is_head
small_front f h =
    let a = and_true (is_head f.head) (is_level f.level f.head.kind) h in
    let b = and_true (is_kind f.head.kind && is_network f.head.network && is_sender f.head.from f.head.inc) (nat_le f.head.to 32) a.0 in
    let c = and_true (is_kind f.head.kind && is_network f.head.network) (is_sender f.head.from f.head.inc) b.0 in
    let d = and_true (is_kind f.head.kind) (is_network f.head.network) c.0 in
    record {
      level = level_small f.level f.head.kind (f.level == 1) refl a.1;
      kind = leb-true f.head.kind 23 (and_true (nat_le 1 f.head.kind) (nat_le f.head.kind 23) d.0).1;
      network = leb-true f.head.network 4 (and_true (nat_le 1 f.head.network) (nat_le f.head.network 4) d.1).1;
      from = sender_small f.head.from f.head.inc (f.head.from == 0) refl c.1;
      to = leb-true f.head.to 32 b.1;
    }

pub front_format : IsFormat front_at front_text IsFront
unfolding front_at front_text
front_format = fits_format IsFront (λ f h. record { passes = h.1; inc = h.0.1.1.1.1.1.1.1.0; body_len = h.0.1.1.1.1.1.1.1.1 })
    (λ f h. let s = small_front f h.passes in
    let level : f.level < 256 = omega (arith, s.level) in
    let kind : f.head.kind < 256 = omega (arith, s.kind) in
    let network : f.head.network < 256 = omega (arith, s.network) in
    let from : f.head.from < 256 = omega (arith, s.from) in
    let to : f.head.to < 256 = omega (arith, s.to) in
    let mark : 21063 < 65536 = omega arith in
    let zero : 0 < 256 = omega arith in
    ((mark, (level, (kind, (network, (from, (to, (zero, (h.inc, h.body_len)))))))), h.passes))
    (guarded_format is_front (decoded_format front_of_parts front_parts front_back (λ f h. refl)
    (both_format u16_format (both_format u8_format (both_format u8_format (both_format u8_format (both_format u8_format (both_format u8_format (both_format u8_format (both_format u32_format u32_format))))))))))

domain_by : (b : Bool) → IsFormat (λ bytes. cond b (Some (0, bytes)) (guarded_at (λ d. nat_le 1 d) (number_at w32) bytes)) (λ d. cond b [] (u32_text d)) (DomainFits b)
domain_by true = nothing_format 0
domain_by false = fits_format (DomainFits false) (λ d h. (leb-true 1 d h.1, h.0)) (λ d h. (h.1, le-leb 1 d h.0)) (guarded_format (λ d. nat_le 1 d) u32_format)

pub domain_format : (level : ℕ) → IsFormat (domain_at level) (domain_text level) (DomainFits (level == 1))
domain_format level = domain_by (level == 1)

pub head_format : IsFormat head_at (λ h. front_text h.0 ++ domain_text h.0.level h.1) (λ h. IsFront h.0 × DomainFits (h.0.level == 1) h.1)
head_format = then_format front_format (λ f. domain_format f.level)

pub packet_found : (bytes : List ℕ) (p : PacketView) → IsBytes bytes → packet_at bytes ≡ Some p → IsPacket p × (bytes ≡ packet_text p)
unfolding packet_at packet_text head_text
packet_found bytes p fits e =
    let h = bind_some (head_at bytes) (λ h. if h.0.0.body_len == length h.1 then Some (record { head = h.0.0.head; level = h.0.0.level; domain = h.0.1; body = h.1 }) else None) p e in
    let x : (Front × ℕ) × List ℕ = h.0 in
    let v : PacketView = record { head = x.0.0.head; level = x.0.0.level; domain = x.0.1; body = x.1 } in
    let t = then_some (x.0.0.body_len == length x.1) v p h.2 in
    let len : x.0.0.body_len ≡ length x.1 = eqb-true x.0.0.body_len (length x.1) t.0 in
    let k = head_format.found bytes x fits h.1 in
    let f : Front = record { head = x.0.0.head; level = x.0.0.level; body_len = length x.1 } in
    let same : x.0.0 ≡ f = ap (λ (n : ℕ). let g : Front = record { head = x.0.0.head; level = x.0.0.level; body_len = n } in g) len in
    subst (λ (q : PacketView). IsPacket q × (bytes ≡ packet_text q)) t.1 (
      record { front = subst IsFront same k.1.0; domain = k.1.1 },
      subst (λ (g : Front). bytes ≡ (front_text g ++ domain_text x.0.0.level x.0.1) ++ x.1) same k.0.parts,
    )

pub packet_again : (p : PacketView) → IsPacket p → packet_at (packet_text p) ≡ Some p
unfolding packet_at packet_text head_text
packet_again p h =
    let f : Front = record { head = p.head; level = p.level; body_len = length p.body } in
    rw (head_format.again (f, p.domain) p.body (h.front, h.domain), eq-eqb (length p.body) (length p.body) refl) refl

read_found_by : (bytes : List ℕ) (r : Option Packet) (read : Option PacketView) → packet_at bytes ≡ read → IsBytes bytes → option_map packet_view r ≡ read → IfSome r (λ p. IsPacket (packet_view p) × (bytes ≡ packet_text (packet_view p)))
read_found_by bytes None read is h e = tt
read_found_by bytes (Some p) read is h e = packet_found bytes (packet_view p) h (is ∙ sym e)

pub read_found : (bytes : List ℕ) (r : Option Packet) → IsBytes bytes → option_map packet_view r ≡ packet_at bytes → IfSome r (λ p. IsPacket (packet_view p) × (bytes ≡ packet_text (packet_view p)))
read_found bytes r h e = read_found_by bytes r (packet_at bytes) refl h e

pub read_only : (bytes : List ℕ) (r : Option Packet) → option_map packet_view r ≡ packet_at bytes → (p : PacketView) → IsPacket p → bytes ≡ packet_text p → option_map packet_view r ≡ Some p
read_only bytes r e p h is = e ∙ (ap packet_at is ∙ packet_again p h)
