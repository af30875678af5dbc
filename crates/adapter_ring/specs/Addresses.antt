-- The order of adapters by address.
use Rattle.std.specs.Prelude.{ℕ, ◌-◌, Bool, true, false, not, ◌==◌, ◌&&◌, List, filter, Option, Some, None, nat_lt, slice_index}
use Rattle.std.specs.List.{fold, list_all}
use Rattle.rsct_packet.specs.declared.mask.Mask.{Mask}
use Rattle.rsct_packet.specs.Mask.{is_node, node_numbers, has_node, without_node, nodes_of}
use Rattle.adapter_ring.specs.declared.ring.RingSettings.{RingSettings}

-- the address of the node's adapter; 0 where it has none
unfoldable pub addr_of : RingSettings → ℕ → ℕ
addr_of s n = elim (is_node n) [ true ↦ slice_index s.addr (n - 1) | false ↦ 0 ]

unfoldable pub has_addr : RingSettings → ℕ → Bool
has_addr s n = nat_lt 0 (addr_of s n)

-- a's address is higher than b's
unfoldable pub is_higher : RingSettings → ℕ → ℕ → Bool
is_higher s a b = nat_lt (addr_of s b) (addr_of s a)

unfoldable pub higher_of : RingSettings → Option ℕ → ℕ → Option ℕ
higher_of s None n = Some n
higher_of s (Some best) n = elim (is_higher s n best) [ true ↦ Some n | false ↦ Some best ]

unfoldable pub lower_of : RingSettings → Option ℕ → ℕ → Option ℕ
lower_of s None n = Some n
lower_of s (Some best) n = elim (is_higher s best n) [ true ↦ Some n | false ↦ Some best ]

-- the first of the highest
unfoldable pub highest : RingSettings → List ℕ → Option ℕ
highest s ns = fold (higher_of s) None ns

unfoldable pub lowest : RingSettings → List ℕ → Option ℕ
lowest s ns = fold (lower_of s) None ns

unfoldable pub highest_of : RingSettings → Mask → Option ℕ
highest_of s ms = highest s (nodes_of ms)

unfoldable pub lowest_of : RingSettings → Mask → Option ℕ
lowest_of s ms = lowest s (nodes_of ms)

-- the highest of those that are lower than the node
unfoldable pub next_lower : RingSettings → ℕ → Mask → Option ℕ
next_lower s n ms = highest s (filter (is_higher s n) (nodes_of ms))

-- the lowest of those that are higher than the node
unfoldable pub next_higher : RingSettings → ℕ → Mask → Option ℕ
next_higher s n ms = lowest s (filter (λ m. is_higher s m n) (nodes_of ms))

unfoldable pub some_of : Option ℕ → Option ℕ → ℕ → ℕ
some_of (Some n) second n0 = n
some_of None (Some n) n0 = n
some_of None None n0 = n0

-- the next lower member, and of the lowest the highest
unfoldable pub neighbour_in : RingSettings → ℕ → Mask → ℕ
neighbour_in s me ms = some_of (next_lower s me ms) (highest_of s ms) me

-- the next higher member, and of the highest the lowest
unfoldable pub upstream_in : RingSettings → ℕ → Mask → ℕ
upstream_in s me ms = some_of (next_higher s me ms) (lowest_of s ms) me

-- 0 where there is none
unfoldable pub node_or_none : Option ℕ → ℕ
node_or_none None = 0
node_or_none (Some n) = n

-- the member with the second highest address; 0 where there is none
unfoldable pub crown_prince_in : RingSettings → Mask → ℕ
crown_prince_in s ms = node_or_none (highest_of s (without_node ms (node_or_none (highest_of s ms))))

unfoldable pub is_highest : RingSettings → ℕ → Mask → Bool
is_highest s n ms = node_or_none (highest_of s ms) == n

unfoldable pub all_have_addr : RingSettings → Mask → Bool
all_have_addr s ms = list_all (has_addr s) (nodes_of ms)

-- the nodes of the network outside
unfoldable pub outside : RingSettings → Mask → List ℕ
outside s ms = filter (λ n. has_addr s n && not (has_node ms n)) node_numbers

-- opens each word of this file, for a computation
unfoldable pub addresses_opens : Unit {0}
unfolding addr_of has_addr is_higher higher_of lower_of highest lowest highest_of lowest_of next_lower next_higher some_of neighbour_in upstream_in node_or_none crown_prince_in is_highest all_have_addr outside
addresses_opens = tt
