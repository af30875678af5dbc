-- When ids are equal, and their order.
use Rattle.std.specs.Prelude.{ℕ, ◌+◌, Bool, true, false, ◌==◌, ◌&&◌, ◌||◌, List, Option, Some, None, nat_lt}
use Rattle.std.specs.List.{list_any}
use Rattle.rsct_packet.specs.declared.ids.ViewId.{ViewId}
use Rattle.rsct_packet.specs.declared.ids.RingId.{RingId}
use Rattle.rsct_packet.specs.declared.ids.ProtoId.{ProtoId}
use Rattle.rsct_packet.specs.declared.ids.Member.{Member}

abbrev pub last_u32 : ℕ
last_u32 = 4294967295

-- a count that rises stands still at its last value
unfoldable pub risen : ℕ → ℕ
risen n = elim (n == last_u32) [ true ↦ n | false ↦ n + 1 ]

abbrev pub same_view : ViewId → ViewId → Bool
same_view a b = a.number == b.number && a.coord == b.coord && a.inc == b.inc

-- by number, then coordinator, then incarnation
abbrev pub view_lt : ViewId → ViewId → Bool
view_lt a b = nat_lt a.number b.number || (a.number == b.number && (nat_lt a.coord b.coord || (a.coord == b.coord && nat_lt a.inc b.inc)))

abbrev pub same_ring : RingId → RingId → Bool
same_ring a b = a.leader == b.leader && a.inc == b.inc && a.number == b.number

abbrev pub same_proto : ProtoId → ProtoId → Bool
same_proto a b = same_view a.view b.view && a.place == b.place

-- by view, then place
abbrev pub proto_lt : ProtoId → ProtoId → Bool
proto_lt a b = view_lt a.view b.view || (same_view a.view b.view && nat_lt a.place b.place)

-- no place is less than any
abbrev pub place_lt : Option ProtoId → Option ProtoId → Bool
place_lt a None = false
place_lt None (Some b) = true
place_lt (Some a) (Some b) = proto_lt a b

abbrev pub same_member : Member → Member → Bool
same_member a b = a.node == b.node && a.inc == b.inc

-- the node with this incarnation is one of them
abbrev pub is_member : List Member → ℕ → ℕ → Bool
is_member ms n j = list_any (λ m. m.node == n && m.inc == j) ms
