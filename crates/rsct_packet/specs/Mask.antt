-- Sets of nodes.
use Rattle.std.specs.Prelude.{ℕ, ◌-◌, ◌*◌, ◌%◌, ◌^◌, Bool, ◌==◌, ◌&&◌, List, [], ◌∷◌, filter, nat_le, bit_and, bit_or, if◌then◌else◌}
use Rattle.std.specs.Int.{bit_at, w32, bit_not}
use Rattle.rsct_packet.specs.declared.mask.Mask.{Mask}

-- the numbers that nodes have
abbrev pub node_numbers : List ℕ
node_numbers = 1 ∷ 2 ∷ 3 ∷ 4 ∷ 5 ∷ 6 ∷ 7 ∷ 8 ∷ 9 ∷ 10 ∷ 11 ∷ 12 ∷ 13 ∷ 14 ∷ 15 ∷ 16 ∷ 17 ∷ 18 ∷ 19 ∷ 20 ∷ 21 ∷ 22 ∷ 23 ∷ 24 ∷ 25 ∷ 26 ∷ 27 ∷ 28 ∷ 29 ∷ 30 ∷ 31 ∷ 32 ∷ []

abbrev pub no_nodes : Mask
no_nodes = record { bits = 0 }

abbrev pub is_node : ℕ → Bool
is_node n = nat_le 1 n && nat_le n 32

-- no node outside 1 to 32 is in a set
unfoldable pub has_node : Mask → ℕ → Bool
has_node m n = is_node n && (bit_at m.bits (n - 1) == 1)

-- nodes from 1 to 32 alone are put in or taken out
unfoldable pub with_node : Mask → ℕ → Mask
with_node m n = if is_node n then record { bits = bit_or m.bits (1 * 2 ^ (n - 1) % 2 ^ 32) } else m

unfoldable pub without_node : Mask → ℕ → Mask
without_node m n = if is_node n then record { bits = bit_and m.bits (bit_not w32 (1 * 2 ^ (n - 1) % 2 ^ 32)) } else m

abbrev pub same_mask : Mask → Mask → Bool
same_mask a b = a.bits == b.bits

unfoldable pub union_of : Mask → Mask → Mask
union_of a b = record { bits = bit_or a.bits b.bits }

unfoldable pub common_of : Mask → Mask → Mask
common_of a b = record { bits = bit_and a.bits b.bits }

-- the nodes of a set, ascending
unfoldable pub nodes_of : Mask → List ℕ
nodes_of m = filter (has_node m) node_numbers

-- opens each word of this file, for a computation
unfoldable pub mask_opens : Unit {0}
unfolding has_node with_node without_node union_of common_of nodes_of
mask_opens = tt
