-- The fields of packets: what spells each, its one spelling, and which values have one.
use Rattle.std.specs.Prelude.{ℕ, ◌<◌, ◌≤◌, ◌^◌, nat_le, List, ◌++◌, length, Option}
use Rattle.std.specs.Int.{w8, w16, w32, w64, to_be_bytes}
use Rattle.rsct_packet.specs.declared.ids.ProviderId.{ProviderId}
use Rattle.rsct_packet.specs.declared.ids.ViewId.{ViewId}
use Rattle.rsct_packet.specs.declared.ids.RingId.{RingId}
use Rattle.rsct_packet.specs.declared.ids.ProtoId.{ProtoId}
use Rattle.rsct_packet.specs.declared.ids.Member.{Member}
use Rattle.rsct_packet.specs.declared.mask.Mask.{Mask}
use Rattle.rsct_packet.specs.Mask.{is_node}
use Rattle.rsct_packet.specs.Text.{is_name_of}
use Rattle.rsct_packet.specs.Providers.{AreProviders, are_providers}
use Rattle.rsct_packet.specs.Format.{EachFits, counted_text}
use Rattle.rsct_packet.specs.Reading.{number_at, part_at, both_at, made_at, guarded_at, keyed_at, counted_at}

abbrev pub u8_text : ℕ → List ℕ
u8_text n = to_be_bytes w8 n

unfoldable pub u16_text : ℕ → List ℕ
u16_text n = to_be_bytes w16 n

unfoldable pub u32_text : ℕ → List ℕ
u32_text n = to_be_bytes w32 n

unfoldable pub u64_text : ℕ → List ℕ
u64_text n = to_be_bytes w64 n

abbrev pub IsU8 : ℕ → Type 0
IsU8 n = n < 256

abbrev pub IsU16 : ℕ → Type 0
IsU16 n = n < 2 ^ 16

abbrev pub IsU32 : ℕ → Type 0
IsU32 n = n < 2 ^ 32

abbrev pub IsU64 : ℕ → Type 0
IsU64 n = n < 2 ^ 64

-- a node: 1 to 32

abbrev pub IsNode : ℕ → Type 0
IsNode n = (1 ≤ n) × (n ≤ 32)

abbrev pub node_at : List ℕ → Option (ℕ × List ℕ)
node_at bytes = guarded_at is_node (number_at w8) bytes

-- a node or nobody: 0 to 32

abbrev pub IsNodeOrNone : ℕ → Type 0
IsNodeOrNone n = n ≤ 32

abbrev pub node_or_none_at : List ℕ → Option (ℕ × List ℕ)
node_or_none_at bytes = guarded_at (λ n. nat_le n 32) (number_at w8) bytes

-- bytes behind their length

abbrev pub AreShort : List ℕ → Type 0
AreShort b = length b < 2 ^ 16

unfoldable pub bytes_text : List ℕ → List ℕ
bytes_text b = u16_text (length b) ++ b

unfoldable pub bytes_at : List ℕ → Option (List ℕ × List ℕ)
bytes_at bytes = keyed_at (number_at w16) part_at bytes

-- a name behind its length

unfoldable pub name_text : List ℕ → List ℕ
name_text b = u8_text (length b) ++ b

unfoldable pub name_at : List ℕ → Option (List ℕ × List ℕ)
name_at bytes = guarded_at is_name_of (keyed_at (number_at w8) part_at) bytes

-- a set of nodes: any 32 bits

abbrev pub IsMask : Mask → Type 0
IsMask m = m.bits < 2 ^ 32

abbrev pub mask_of_bits : ℕ → Mask
mask_of_bits n = record { bits = n }

unfoldable pub mask_text : Mask → List ℕ
mask_text m = u32_text m.bits

unfoldable pub mask_at : List ℕ → Option (Mask × List ℕ)
mask_at bytes = made_at mask_of_bits (number_at w32) bytes

-- a view

pub record IsView (v : ViewId) : Type 0 where
  pub number : IsU32 v.number
  pub coord : IsNode v.coord
  pub inc : IsU32 v.inc

abbrev pub view_of_parts : ℕ × (ℕ × ℕ) → ViewId
view_of_parts p = record { number = p.0; coord = p.1.0; inc = p.1.1 }

unfoldable pub view_text : ViewId → List ℕ
view_text v = u32_text v.number ++ (u8_text v.coord ++ u32_text v.inc)

unfoldable pub view_at : List ℕ → Option (ViewId × List ℕ)
view_at bytes = made_at view_of_parts (both_at (number_at w32) (both_at node_at (number_at w32))) bytes

-- a ring

pub record IsRing (r : RingId) : Type 0 where
  pub number : IsU32 r.number
  pub leader : IsNode r.leader
  pub inc : IsU32 r.inc

abbrev pub ring_of_parts : ℕ × (ℕ × ℕ) → RingId
ring_of_parts p = record { leader = p.1.0; inc = p.1.1; number = p.0 }

unfoldable pub ring_text : RingId → List ℕ
ring_text r = u32_text r.number ++ (u8_text r.leader ++ u32_text r.inc)

unfoldable pub ring_at : List ℕ → Option (RingId × List ℕ)
ring_at bytes = made_at ring_of_parts (both_at (number_at w32) (both_at node_at (number_at w32))) bytes

-- a provider

pub record IsProvider (p : ProviderId) : Type 0 where
  pub node : IsNode p.node
  pub inc : IsU32 p.inc
  pub instance : IsU16 p.instance
  pub join : IsU32 p.join

abbrev pub provider_of_parts : ℕ × (ℕ × (ℕ × ℕ)) → ProviderId
provider_of_parts p = record { node = p.0; inc = p.1.0; instance = p.1.1.0; join = p.1.1.1 }

unfoldable pub provider_text : ProviderId → List ℕ
provider_text p = u8_text p.node ++ (u32_text p.inc ++ (u16_text p.instance ++ u32_text p.join))

unfoldable pub provider_at : List ℕ → Option (ProviderId × List ℕ)
provider_at bytes = made_at provider_of_parts (both_at node_at (both_at (number_at w32) (both_at (number_at w16) (number_at w32)))) bytes

-- a protocol

pub record IsProto (p : ProtoId) : Type 0 where
  pub view : IsView p.view
  pub place : IsU32 p.place

abbrev pub proto_of_parts : ViewId × ℕ → ProtoId
proto_of_parts p = record { view = p.0; place = p.1 }

unfoldable pub proto_text : ProtoId → List ℕ
proto_text p = view_text p.view ++ u32_text p.place

unfoldable pub proto_at : List ℕ → Option (ProtoId × List ℕ)
proto_at bytes = made_at proto_of_parts (both_at view_at (number_at w32)) bytes

-- a node with its incarnation

pub record IsMember (m : Member) : Type 0 where
  pub node : IsNode m.node
  pub inc : IsU32 m.inc

abbrev pub member_of_parts : ℕ × ℕ → Member
member_of_parts p = record { node = p.0; inc = p.1 }

unfoldable pub member_text : Member → List ℕ
member_text m = u8_text m.node ++ u32_text m.inc

unfoldable pub member_at : List ℕ → Option (Member × List ℕ)
member_at bytes = made_at member_of_parts (both_at node_at (number_at w32)) bytes

-- at most 64 providers that differ

pub record IsProviders (ps : List ProviderId) : Type 0 where
  pub are : AreProviders ps
  pub each : EachFits IsProvider ps

unfoldable pub providers_text : List ProviderId → List ℕ
providers_text ps = counted_text w8 provider_text ps

unfoldable pub providers_at : List ℕ → Option (List ProviderId × List ℕ)
providers_at bytes = guarded_at are_providers (counted_at w8 provider_at) bytes

-- at least one of them

unfoldable pub some_providers_at : List ℕ → Option (List ProviderId × List ℕ)
some_providers_at bytes = guarded_at (λ ps. nat_le 1 (length ps)) providers_at bytes

pub record IsSomeProviders (ps : List ProviderId) : Type 0 where
  pub are : IsProviders ps
  pub some : 1 ≤ length ps
