-- Envelopes: the mark 52 54, how often it may still be sent on, a 0, the origin and the target; and the packet, up to the end.
use Rattle.std.specs.Prelude.{ℕ, ◌≤◌, ◌==◌, ◌&&◌, nat_le, Bool, false, IsTrue, List, ◌++◌, Option, Some, None, if◌then◌else◌}
use Rattle.std.specs.Int.{w8, w16}
use Rattle.rsct_packet.specs.Reading.{◌>>=◌, number_at, both_at, decoded_at, guarded_at}
use Rattle.rsct_packet.specs.Fields.{IsNode, node_at, u8_text, u16_text}
use Rattle.node_state.specs.declared.packet.Packet.{Packet}
use Rattle.node_state.specs.Bytes.{packet_of}
use Rattle.route_state.specs.declared.front.Front.{Front}

-- an envelope, as a plain value: the packet is the bytes that spell it
pub record EnvelopeView : Type 0 where
  pub front : Front
  pub inner : List ℕ

-- how often an envelope may be sent on at most
abbrev pub max_hops : ℕ
max_hops = 31

-- a packet of any kind that the one node sends to the other
abbrev pub goes_between : ℕ → ℕ → Option Packet → Bool
goes_between origin target None = false
goes_between origin target (Some p) = p.from == origin && p.to == target

unfoldable pub is_carried : ℕ → ℕ → List ℕ → Bool
is_carried origin target inner = goes_between origin target (packet_of inner)

-- ---- the front

abbrev pub mark : ℕ
mark = 0x5254

abbrev pub FrontParts : Type 0
FrontParts = ℕ × (ℕ × (ℕ × (ℕ × ℕ)))

abbrev pub front_parts : Front → FrontParts
front_parts f = (mark, (f.hops, (0, (f.origin, f.target))))

abbrev pub front_of_parts : FrontParts → Option Front
front_of_parts p = if (p.0 == mark) && (p.1.1.0 == 0) then Some (record { hops = p.1.0; origin = p.1.1.1.0; target = p.1.1.1.1 }) else None

unfoldable pub front_at : List ℕ → Option (Front × List ℕ)
front_at bytes =
    guarded_at (λ f. nat_le f.hops max_hops) (decoded_at front_of_parts (both_at (number_at w16) (both_at (number_at w8) (both_at (number_at w8) (both_at node_at node_at))))) bytes

unfoldable pub front_text : Front → List ℕ
front_text f = u16_text mark ++ (u8_text f.hops ++ (u8_text 0 ++ (u8_text f.origin ++ u8_text f.target)))

pub record IsFront (f : Front) : Type 0 where
  pub hops : f.hops ≤ max_hops
  pub origin : IsNode f.origin
  pub target : IsNode f.target

-- ---- the whole

pub record IsEnvelope (e : EnvelopeView) : Type 0 where
  pub front : IsFront e.front
  pub carried : IsTrue (is_carried e.front.origin e.front.target e.inner)

unfoldable pub envelope_text : EnvelopeView → List ℕ
envelope_text e = front_text e.front ++ e.inner

unfoldable pub envelope_of : List ℕ → Option EnvelopeView
envelope_of bytes = do
  f ← front_at bytes
  if is_carried f.0.origin f.0.target f.1 then Some (record { front = f.0; inner = f.1 }) else None

-- opens each word of this file, for a computation
unfoldable pub envelope_opens : Unit {0}
unfolding is_carried front_at front_text envelope_text envelope_of
envelope_opens = tt
