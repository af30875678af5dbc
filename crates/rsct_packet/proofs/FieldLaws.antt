-- The formats of the fields of packets.
use Rattle.std.proofs.Common.{ℕ, ◌≤◌, Bool, true, false, List, length, refl, arith}
use Rattle.std.specs.Prelude.{IsTrue, ◌&&◌, nat_le}
use Rattle.std.specs.List.{list_all}
use Rattle.std.proofs.lemmas.Bool.{leb-true, le-leb}
use Rattle.rsct_packet.specs.Text.{IsName, is_name_of, name_byte}
use Rattle.rsct_packet.specs.Mask.{is_node}
use Rattle.rsct_packet.specs.Format.{IsFormat}
use Rattle.rsct_packet.specs.Fields.{IsNode, node_at, u8_text, IsNodeOrNone, node_or_none_at, bytes_at, bytes_text, AreShort, name_at, name_text, mask_at, mask_text, mask_of_bits, IsMask, view_at, view_text, view_of_parts, IsView, ring_at, ring_text, ring_of_parts, IsRing, provider_at, provider_text, provider_of_parts, IsProvider, proto_at, proto_text, proto_of_parts, IsProto, member_at, member_text, member_of_parts, IsMember, providers_at, providers_text, IsProviders, some_providers_at, IsSomeProviders}
use Rattle.rsct_packet.specs.declared.ids.ProviderId.{ProviderId}
use Rattle.rsct_packet.specs.Providers.{AreProviders, are_providers, differ}
use Rattle.std.specs.Int.{w8}
use Rattle.rsct_packet.proofs.FormatLaws.{counted_format, wide8, both_format, made_format, guarded_format, fits_format, keyed_format, part_keyed, u8_format, u16_format, u32_format}

pub and_true : (a b : Bool) → IsTrue (a && b) → IsTrue a × IsTrue b
and_true true b h = (refl, h)
and_true false b h = absurd cc

pub both_true : (a b : Bool) → IsTrue a → IsTrue b → IsTrue (a && b)
both_true true b g h = h
both_true false b g h = absurd cc

node_passes : (n : ℕ) → IsTrue (is_node n) → IsNode n
node_passes n h = let p = and_true (nat_le 1 n) (nat_le n 32) h in (leb-true 1 n p.0, leb-true n 32 p.1)

passes_node : (n : ℕ) → IsNode n → IsTrue (is_node n)
passes_node n h = both_true (nat_le 1 n) (nat_le n 32) (le-leb 1 n h.0) (le-leb n 32 h.1)

pub node_format : IsFormat node_at u8_text IsNode
node_format = fits_format IsNode (λ n h. node_passes n h.1) (λ n h. let le : n ≤ 32 = h.1 in (omega arith, passes_node n h)) (guarded_format is_node u8_format)

pub node_or_none_format : IsFormat node_or_none_at u8_text IsNodeOrNone
node_or_none_format = fits_format IsNodeOrNone (λ n h. leb-true n 32 h.1) (λ n h. let le : n ≤ 32 = h in (omega arith, le-leb n 32 le)) (guarded_format (λ n. nat_le n 32) u8_format)

pub bytes_format : IsFormat bytes_at bytes_text AreShort
unfolding bytes_at bytes_text
bytes_format = fits_format AreShort (λ b h. h.0) (λ b h. (h, tt)) (keyed_format u16_format part_keyed)

name_is_short : (b : List ℕ) → IsName b → length b ≤ 32
name_is_short b h = leb-true (length b) 32 (and_true (nat_le 1 (length b)) (nat_le (length b) 32) (and_true (nat_le 1 (length b) && nat_le (length b) 32) (list_all name_byte b) h).0).1

pub name_format : IsFormat name_at name_text IsName
unfolding name_at name_text
name_format = fits_format IsName (λ b h. h.1) (λ b h. let le = name_is_short b h in ((omega arith, tt), h)) (guarded_format is_name_of (keyed_format u8_format part_keyed))

pub mask_format : IsFormat mask_at mask_text IsMask
unfolding mask_at mask_text
mask_format = made_format mask_of_bits (λ m. m.bits) (λ a. refl) (λ b. refl) u32_format

pub view_format : IsFormat view_at view_text IsView
unfolding view_at view_text
view_format = fits_format IsView (λ v h. record { number = h.0; coord = h.1.0; inc = h.1.1 }) (λ v h. (h.number, (h.coord, h.inc)))
    (made_format view_of_parts (λ v. (v.number, (v.coord, v.inc))) (λ a. refl) (λ b. refl) (both_format u32_format (both_format node_format u32_format)))

pub ring_format : IsFormat ring_at ring_text IsRing
unfolding ring_at ring_text
ring_format = fits_format IsRing (λ r h. record { number = h.0; leader = h.1.0; inc = h.1.1 }) (λ r h. (h.number, (h.leader, h.inc)))
    (made_format ring_of_parts (λ r. (r.number, (r.leader, r.inc))) (λ a. refl) (λ b. refl) (both_format u32_format (both_format node_format u32_format)))

pub provider_format : IsFormat provider_at provider_text IsProvider
unfolding provider_at provider_text
provider_format = fits_format IsProvider (λ p h. record { node = h.0; inc = h.1.0; instance = h.1.1.0; join = h.1.1.1 }) (λ p h. (h.node, (h.inc, (h.instance, h.join))))
    (made_format provider_of_parts (λ p. (p.node, (p.inc, (p.instance, p.join)))) (λ a. refl) (λ b. refl) (both_format node_format (both_format u32_format (both_format u16_format u32_format))))

pub proto_format : IsFormat proto_at proto_text IsProto
unfolding proto_at proto_text
proto_format = fits_format IsProto (λ p h. record { view = h.0; place = h.1 }) (λ p h. (h.view, h.place))
    (made_format proto_of_parts (λ p. (p.view, p.place)) (λ a. refl) (λ b. refl) (both_format view_format u32_format))

pub member_format : IsFormat member_at member_text IsMember
unfolding member_at member_text
member_format = fits_format IsMember (λ m h. record { node = h.0; inc = h.1 }) (λ m h. (h.node, h.inc))
    (made_format member_of_parts (λ m. (m.node, m.inc)) (λ a. refl) (λ b. refl) (both_format node_format u32_format))

few_apart : (ps : List ProviderId) → IsTrue (are_providers ps) → AreProviders ps
few_apart ps h = let p = and_true (nat_le (length ps) 64) (differ ps) h in record { few = leb-true (length ps) 64 p.0; apart = p.1 }

apart_few : (ps : List ProviderId) → AreProviders ps → IsTrue (are_providers ps)
apart_few ps h = both_true (nat_le (length ps) 64) (differ ps) (le-leb (length ps) 64 h.few) h.apart

pub providers_format : IsFormat providers_at providers_text IsProviders
unfolding providers_at providers_text
providers_format = fits_format IsProviders (λ ps h. record { are = few_apart ps h.1; each = h.0.1 }) (λ ps h. let few = h.are.few in ((omega arith, h.each), apart_few ps h.are))
    (guarded_format are_providers (counted_format w8 256 wide8 provider_format))

pub some_providers_format : IsFormat some_providers_at providers_text IsSomeProviders
unfolding some_providers_at
some_providers_format = fits_format IsSomeProviders (λ ps h. record { are = h.0; some = leb-true 1 (length ps) h.1 }) (λ ps h. (h.are, le-leb 1 (length ps) h.some))
    (guarded_format (λ ps. nat_le 1 (length ps)) providers_format)
