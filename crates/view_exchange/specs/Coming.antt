-- Nodes that come from sources, one source after another.
use Rattle.std.specs.Prelude.{ℕ, Bool, true, false, ◌&&◌, List}
use Rattle.std.specs.List.{list_any, list_all}
use Rattle.rsct_packet.specs.declared.ids.Member.{Member}
use Rattle.rsct_packet.specs.declared.mask.Mask.{Mask}
use Rattle.rsct_packet.specs.Mask.{node_numbers, has_node}
use Rattle.view_state.specs.declared.install.Source.{Source}
use Rattle.view_state.specs.Codec.{has_member, comes_from}

abbrev pub have_common : Mask → Mask → Bool
have_common a b = list_any (λ n. has_node a n && has_node b n) node_numbers

-- a node comes once, where these have come already
abbrev pub comes_after : Mask → List Member → List Source → ℕ → Bool
comes_after come ms ss n = elim (has_node come n) [ true ↦ has_member ms n && comes_from false ss n | false ↦ comes_from (has_member ms n) ss n ]

abbrev pub each_comes_after : Mask → List Member → List Source → Bool
each_comes_after come ms ss = list_all (comes_after come ms ss) node_numbers
