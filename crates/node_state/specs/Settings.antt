-- What the settings say.
use Rattle.std.specs.Prelude.{ℕ, Bool, true, false, ◌-◌, ◌&&◌, List, [], ◌∷◌, Option, nat_le, nat_lt, filter, find, slice_get}
use Rattle.std.specs.List.{list_all}
use Rattle.std.specs.Option.{unwrap_or}
use Rattle.rsct_packet.specs.declared.ids.Member.{Member}
use Rattle.rsct_packet.specs.declared.mask.Mask.{Mask}
use Rattle.rsct_packet.specs.Mask.{has_node, node_numbers}
use Rattle.node_state.specs.declared.config.Config.{Config}
use Rattle.node_state.specs.declared.config.Mode.{Mode}
use Rattle.node_state.specs.declared.config.Mode.TheVariants.{Fixed, Asked, Rings}

abbrev pub is_fixed : Mode → Bool
is_fixed Fixed = true
is_fixed Asked = false
is_fixed Rings = false

abbrev pub is_rings : Mode → Bool
is_rings Fixed = false
is_rings Asked = false
is_rings Rings = true

abbrev pub networks : List ℕ
networks = 1 ∷ 2 ∷ 3 ∷ 4 ∷ []

-- the addresses of a network, by node
unfoldable pub addresses_on : Config → ℕ → List ℕ
addresses_on c network = unwrap_or (slice_get c.addr (network - 1)) []

-- 0 where the node has no adapter there
unfoldable pub address_at : Config → ℕ → ℕ → ℕ
address_at c n network = unwrap_or (slice_get (addresses_on c network) (n - 1)) 0

unfoldable pub has_adapter : Config → ℕ → ℕ → Bool
has_adapter c n network = nat_lt 0 (address_at c n network)

unfoldable pub networks_of : Config → ℕ → List ℕ
networks_of c n = filter (has_adapter c n) networks

-- the least network that both nodes have, or 0
unfoldable pub shared_network : Config → ℕ → ℕ → ℕ
shared_network c a b = unwrap_or (find (λ k. has_adapter c a k && has_adapter c b k) networks) 0

-- speaks this node level 2 in its incarnation? 0 is never
unfoldable pub speaks_two : Config → Member → Bool
speaks_two c m = let from : ℕ = unwrap_or (slice_get c.level_from (m.node - 1)) 0 in nat_lt 0 from && nat_le from m.inc

unfoldable pub level_if : Bool → ℕ
level_if true = 2
level_if false = 1

-- the level of a view with these members
unfoldable pub view_level : Config → List Member → ℕ
view_level c ms = level_if (list_all (speaks_two c) ms)

-- the least node of a set, if it has one
unfoldable pub least_node : Mask → Option ℕ
least_node m = find (has_node m) node_numbers

-- opens each word of this file, for a computation
unfoldable pub settings_opens : Unit {0}
unfolding least_node addresses_on address_at has_adapter networks_of shared_network speaks_two level_if view_level
settings_opens = tt
