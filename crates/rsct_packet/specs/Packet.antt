-- The packet whole: its head and its body.
use Rattle.std.specs.Prelude.{◌≡◌, ℕ, ◌≤◌, Bool, true, false, ◌&&◌, ◌||◌, ◌==◌, nat_le, IsTrue, List, [], ◌++◌, length, Option, Some, None, if◌then◌else◌}
use Rattle.std.specs.Int.{w8, w16, w32}
use Rattle.rsct_packet.specs.declared.packet.Head.{Head}
use Rattle.rsct_packet.specs.declared.packet.Front.{Front}
use Rattle.rsct_packet.specs.declared.packet.Packet.{Packet}
use Rattle.rsct_packet.specs.Reading.{◌>>=◌, number_at, both_at, then_at, decoded_at, guarded_at}
use Rattle.rsct_packet.specs.Fields.{IsU32, u8_text, u16_text, u32_text}

-- the kinds of packets of a view's groups, which occur at both levels
abbrev pub is_group_kind : ℕ → Bool
is_group_kind k = nat_le 14 k && nat_le k 21

abbrev pub is_level : ℕ → ℕ → Bool
is_level level kind = (level == 1) || ((level == 2) && is_group_kind kind)

-- a status client has neither number nor incarnation
abbrev pub is_sender : ℕ → ℕ → Bool
is_sender from inc = if from == 0 then inc == 0 else nat_le from 32 && nat_le 1 inc

abbrev pub is_kind : ℕ → Bool
is_kind k = nat_le 1 k && nat_le k 23

abbrev pub is_network : ℕ → Bool
is_network n = nat_le 1 n && nat_le n 4

unfoldable pub is_head : Head → Bool
is_head h = is_kind h.kind && is_network h.network && is_sender h.from h.inc && nat_le h.to 32

unfoldable pub is_front : Front → Bool
is_front f = is_head f.head && is_level f.level f.head.kind

-- the first 16 bytes, which both levels have: the mark 52 47, level, kind, network, sender, receiver, 0, the
-- sender's incarnation and the body's length

abbrev pub FrontParts : Type 0
FrontParts = ℕ × (ℕ × (ℕ × (ℕ × (ℕ × (ℕ × (ℕ × (ℕ × ℕ)))))))

abbrev pub front_parts : Front → FrontParts
front_parts f = (21063, (f.level, (f.head.kind, (f.head.network, (f.head.from, (f.head.to, (0, (f.head.inc, f.body_len))))))))

abbrev pub front_of_parts : FrontParts → Option Front
front_of_parts p = if (p.0 == 21063) && (p.1.1.1.1.1.1.0 == 0) then Some (record { head = record { kind = p.1.1.0; network = p.1.1.1.0; from = p.1.1.1.1.0; to = p.1.1.1.1.1.0; inc = p.1.1.1.1.1.1.1.0 }; level = p.1.0; body_len = p.1.1.1.1.1.1.1.1 }) else None

abbrev pub front_parts_at : List ℕ → Option (FrontParts × List ℕ)
front_parts_at bytes = both_at (number_at w16) (both_at (number_at w8) (both_at (number_at w8) (both_at (number_at w8) (both_at (number_at w8) (both_at (number_at w8) (both_at (number_at w8) (both_at (number_at w32) (number_at w32)))))))) bytes

unfoldable pub front_at : List ℕ → Option (Front × List ℕ)
front_at bytes = guarded_at is_front (decoded_at front_of_parts front_parts_at) bytes

unfoldable pub front_text : Front → List ℕ
front_text f = u16_text 21063 ++ (u8_text f.level ++ (u8_text f.head.kind ++ (u8_text f.head.network ++ (u8_text f.head.from ++ (u8_text f.head.to ++ (u8_text 0 ++ (u32_text f.head.inc ++ u32_text f.body_len)))))))

pub record IsFront (f : Front) : Type 0 where
  pub passes : IsTrue (is_front f)
  pub inc : IsU32 f.head.inc
  pub body_len : IsU32 f.body_len

-- level 2 names its domain

abbrev pub domain_at : ℕ → List ℕ → Option (ℕ × List ℕ)
domain_at level bytes = if level == 1 then Some (0, bytes) else guarded_at (λ d. nat_le 1 d) (number_at w32) bytes

abbrev pub domain_text : ℕ → ℕ → List ℕ
domain_text level d = if level == 1 then [] else u32_text d

abbrev pub DomainFits : Bool → ℕ → Type 0
DomainFits true d = d ≡ 0
DomainFits false d = (1 ≤ d) × IsU32 d

abbrev pub head_at : List ℕ → Option ((Front × ℕ) × List ℕ)
head_at bytes = then_at front_at (λ f. domain_at f.level) bytes

-- the spelling of a head at a level, with the length of the body
unfoldable pub head_text : Head → ℕ → ℕ → ℕ → List ℕ
head_text h level domain body_len = front_text (record { head = h; level = level; body_len = body_len }) ++ domain_text level domain

-- what a reader of datagrams sees
pub record PacketView : Type 0 where
  pub head : Head
  pub level : ℕ
  pub domain : ℕ
  pub body : List ℕ

abbrev pub packet_view : Packet → PacketView
packet_view p = record { head = p.head; level = p.level; domain = p.domain; body = p.body.now }

-- which packets have a spelling
pub record IsPacket (p : PacketView) : Type 0 where
  pub front : IsFront (record { head = p.head; level = p.level; body_len = length p.body })
  pub domain : DomainFits (p.level == 1) p.domain

unfoldable pub packet_text : PacketView → List ℕ
packet_text p = head_text p.head p.level p.domain (length p.body) ++ p.body

-- the body is all that follows the head, and has just the length that the head names
unfoldable pub packet_at : List ℕ → Option PacketView
packet_at bytes = do
  h ← head_at bytes
  if h.0.0.body_len == length h.1 then Some (record { head = h.0.0.head; level = h.0.0.level; domain = h.0.1; body = h.1 }) else None
